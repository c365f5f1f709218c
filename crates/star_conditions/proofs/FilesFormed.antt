-- Resolved files have no form that the grammar refuses.
use Rattle.std.proofs.Common.{◌≡◌, ℕ, List, [], ◌∷◌, map, true, Bool, All, Result, Ok, Err, Some}
use Rattle.std.proofs.Common.{None, refl, subst, IfOk, ◌∙◌}
use Rattle.std.proofs.lemmas.Bool.{and_from}
use Rattle.std.proofs.lemmas.List.Elements.{All-head, All-same, All-tail}
use Rattle.star_conditions.proofs.ExpressionForms as expression
use Rattle.star_conditions.proofs.ExpressionForms.{RightCode, right, ExprRight, ArgRight}
use Rattle.star_conditions.proofs.ExpressionForms.{ClauseRight, ParamRight, PairRight}
use Rattle.star_trees.proofs.Folds as is
use Rattle.star_conditions.proofs.Conditions.{Conditions, ExpressionsKeep, StatementsKeep}
use Rattle.star_conditions.proofs.SpelledStatements.{IsFile-held}
use Rattle.star_conditions.proofs.StatementForms as statement
use Rattle.star_conditions.proofs.StatementForms.{StmtRight, body-right, on_line-right}
use Rattle.star_trees.specs.Orders.{HasNoRefusedForm, right_code, stmt_forms}
use Rattle.star_trees.specs.declared.files.File.{File}
use Rattle.star_trees.specs.declared.trees.StmtKind as st
use Rattle.star_grammar.specs.declared.bare_statements.BareFile.{BareFile}
use Rattle.star_grammar.specs.declared.bare_statements.BareStmt.{BareStmt}
use Rattle.star_trees.specs.Lists.{all_of}
use Rattle.star_trees.specs.Surroundings.{at_top}
use Rattle.star_grammar.specs.Symbols.{symbols_of}
use Rattle.star_grammar.specs.Texts.{Spelled}
use Rattle.star_trees.specs.Variables.{Names}
use Rattle.star_scopes.proofs.StatementLayers as layer
use Rattle.star_scopes.specs.declared.dialects.Dialect.{Dialect}
use Rattle.star_scopes.specs.declared.unbound.Unbound.{Unbound}
use Rattle.star_scopes.specs.Files.{file_scopes, file_with, free_names, no_lists, resolved}
use Rattle.star_scopes.specs.Files.{with_free}

-- what is made of a tree has no refused form
abbrev formed : Conditions
formed = record {
  expr = λ n. ExprRight;
  arg = λ n. ArgRight;
  clause = λ n. ClauseRight;
  param = λ
      n. ParamRight;
  pair = λ n. PairRight;
  stmt = λ inside n. StmtRight inside;
}

expressions-formed : ExpressionsKeep formed
expressions-formed = record {
  deeper_expr = λ n m tree below so. so;
  deeper_arg = λ n m tree below so. so;
  deeper_clause = λ n m tree below so. so;
  deeper_param = λ n m tree below so. so;
  deeper_pair = λ n m tree below so. so;
  name = expression.name-formed;
  int = expression.int-formed;
  text = expression.text-formed;
  list = λ n. expression.list-formed;
  tuple = λ n. expression.tuple-formed;
  dict = λ n. expression.dict-formed;
  list_comp = λ n. expression.list_comp-formed;
  dict_comp = λ n. expression.dict_comp-formed;
  bracketed = λ n. expression.bracketed-formed;
  unary = λ n. expression.unary-formed;
  binary = λ n. expression.binary-formed;
  cond = λ n. expression.cond-formed;
  lambda = λ n params body line less. expression.lambda-formed params body line;
  attr = λ n. expression.attr-formed;
  index = λ n. expression.index-formed;
  slice = λ n. expression.slice-formed;
  call = λ n. expression.call-formed;
  positional = λ n. expression.positional-formed;
  named = λ n. expression.named-formed;
  star = λ n. expression.star-formed;
  double_star = λ n. expression.double_star-formed;
  for_clause = λ n. expression.for_clause-formed;
  if_clause = λ n. expression.if_clause-formed;
  required = expression.required-formed;
  optional = λ n. expression.optional-formed;
  bare = expression.bare-formed;
  rest = expression.rest-formed;
  keywords = expression.keywords-formed;
  entry = λ n. expression.entry-formed;
}

statements-formed : StatementsKeep formed
statements-formed = record {
  deeper_stmt = λ inside n m tree below so. so;
  returned_nothing = λ inside line may. on_line-right line inside _ _
      (layer.kind_meaning-Return None)
      (record { kind = λ line free scopes. statement.return_nothing-right free scopes inside may });
  returned = λ inside line n value may so. on_line-right line inside _ _
      (layer.kind_meaning-Return (Some value))
      (record {
        kind = λ line free scopes. statement.return-right free scopes inside value may so;
      });
  breaks = λ inside line may. on_line-right line inside _ _ layer.kind_meaning-Break
      (record {
        kind = λ line free scopes. right _ st.Break
            ((λ i. is.fold_kind-Break stmt_forms i inside) ∙ may);
      });
  continues = λ inside line may. on_line-right line inside _ _ layer.kind_meaning-Continue
      (record {
        kind = λ line free scopes. right _ st.Continue
            ((λ i. is.fold_kind-Continue stmt_forms i inside) ∙ may);
      });
  passes = λ inside line. on_line-right line inside _ _ layer.kind_meaning-Pass
      (record {
        kind = λ line free scopes. right _ st.Pass
            ((λ i. is.fold_kind-Pass stmt_forms i inside));
      });
  loads = λ inside line n file names may. on_line-right line inside _ _
      (layer.kind_meaning-Load file names)
      (record { kind = λ line free scopes. statement.load-right inside file names line may });
  assigned = λ inside line n to value target so also. on_line-right line inside _ _
      (layer.kind_meaning-Assign to value)
      (record {
        kind = λ line free scopes. statement.assign-right free scopes inside to value target
            so also;
      });
  changed = λ inside line n place op value named so also. on_line-right line inside _ _
      (layer.kind_meaning-Augment place op value)
      (record {
        kind = λ line free scopes. statement.augment-right free scopes inside place op value
            named so also;
      });
  valued = λ inside line n value so. on_line-right line inside _ _ (layer.kind_meaning-Value value)
      (record { kind = λ line free scopes. statement.value-right free scopes inside value so });
  def = λ inside line n name params body less are all some. on_line-right line inside _ _
      (layer.kind_meaning-Def name params body)
      (record {
        kind = λ line free scopes. statement.def-right free scopes inside name params body
            line are all some;
      });
  branch = λ inside line n test chosen other so all more. on_line-right line inside _ _
      (layer.kind_meaning-If test chosen other)
      (record {
        kind = λ line free scopes. statement.if-right free scopes inside test chosen other
            so all more;
      });
  loop = λ inside line n to over body target so also all. on_line-right line inside _ _
      (layer.kind_meaning-For to over body)
      (record {
        kind = λ line free scopes. statement.for-right free scopes inside to over body
            target so also all;
      });
}

all_of-each : {A : Type 0} (test : A → Bool) (xs : List A)
    → All (λ x. test x ≡ true) xs
    → all_of (map test xs) ≡ true
all_of-each test [] all = refl
all_of-each test (x ∷ xs) all = and_from _ _ (All-head (λ y. test y ≡ true) x xs all)
    (all_of-each test xs (All-tail (λ y. test y ≡ true) x xs all))

file_with-formed : (free : Names) (body : List BareStmt)
    → All (StmtRight at_top) body
    → HasNoRefusedForm (file_with free body)
file_with-formed free body all =
    let made = body-right free (file_scopes body) at_top body all in
    record {
      body = made.value no_lists;
      functions = let added = made.added no_lists in all_of-each right_code _
          (All-same RightCode _ added.more added.is added.right);
    }

with_free-formed : (body : List BareStmt)
    → All (StmtRight at_top) body
    → (free : Result Names Unbound) (file : File)
    → with_free body free ≡ Ok file
    → HasNoRefusedForm file
with_free-formed body all (Ok free) file is = subst (λ result. IfOk result HasNoRefusedForm) is
    (file_with-formed free body all)
with_free-formed body all (Err unbound) file is = subst
    (λ result. IfOk result HasNoRefusedForm) is tt

pub resolved-formed : (dialect : Dialect) (text : List ℕ) (tree : BareFile) (file : File)
    → Spelled text tree
    → resolved dialect tree.body ≡ Ok file
    → HasNoRefusedForm file
resolved-formed dialect text tree file so is = with_free-formed tree.body
    (IsFile-held formed expressions-formed statements-formed
    (symbols_of text so.tokens) tree so.spelled).2 (free_names dialect tree.body) file is
