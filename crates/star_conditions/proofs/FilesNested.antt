-- Resolved files are nested no deeper than their texts.
use Rattle.std.proofs.Common.{◌≡◌, ℕ, ◌≤◌, List, [], ◌∷◌, map, All, Result, Ok, Err, arith}
use Rattle.std.proofs.Common.{le_trans, subst, IfOk}
use Rattle.std.proofs.lemmas.List.Elements.{All-head, All-same, All-tail}
use Rattle.star_conditions.proofs.ExpressionNesting as expression
use Rattle.star_conditions.proofs.ExpressionNesting.{Shallow, ExprNested, ArgNested, ClauseNested}
use Rattle.star_conditions.proofs.ExpressionNesting.{ParamNested, PairNested}
use Rattle.star_conditions.proofs.Conditions.{Conditions, ExpressionsKeep, StatementsKeep}
use Rattle.star_conditions.proofs.SpelledStatements.{IsFile-held}
use Rattle.star_conditions.proofs.StatementNesting as statement
use Rattle.star_conditions.proofs.StatementNesting.{StmtNested, body-nested}
use Rattle.star_trees.specs.Nesting.{NestedWithin, depth_of_code}
use Rattle.star_trees.specs.Indexes.{greatest}
use Rattle.star_trees.specs.declared.files.File.{File}
use Rattle.star_grammar.specs.declared.bare_statements.BareFile.{BareFile}
use Rattle.star_grammar.specs.declared.bare_statements.BareStmt.{BareStmt}
use Rattle.star_grammar.specs.Symbols.{symbols_of}
use Rattle.star_grammar.specs.Texts.{Spelled}
use Rattle.star_trees.specs.Variables.{Names}
use Rattle.star_scopes.specs.declared.dialects.Dialect.{Dialect}
use Rattle.star_scopes.specs.declared.unbound.Unbound.{Unbound}
use Rattle.star_scopes.specs.Files.{file_scopes, file_with, free_names, no_lists, resolved}
use Rattle.star_scopes.specs.Files.{with_free}

-- what is made of a tree is no deeper than the tree
abbrev nesting : Conditions
nesting = record {
  expr = ExprNested;
  arg = ArgNested;
  clause = ClauseNested;
  param = ParamNested;
  pair = PairNested;
  stmt = λ inside. StmtNested;
}

expressions-nested : ExpressionsKeep nesting
expressions-nested = record {
  deeper_expr = expression.deeper-expr;
  deeper_arg = expression.deeper-arg;
  deeper_clause = expression.deeper-clause;
  deeper_param = expression.deeper-param;
  deeper_pair = expression.deeper-pair;
  name = expression.name-within;
  int = expression.int-within;
  text = expression.text-within;
  list = expression.list-within;
  tuple = expression.tuple-within;
  dict = expression.dict-within;
  list_comp = expression.list_comp-within;
  dict_comp = expression.dict_comp-within;
  bracketed = expression.bracketed-within;
  unary = expression.unary-within;
  binary = expression.binary-within;
  cond = expression.cond-within;
  lambda = expression.lambda-within;
  attr = expression.attr-within;
  index = expression.index-within;
  slice = expression.slice-within;
  call = expression.call-within;
  positional = expression.positional-within;
  named = expression.named-within;
  star = expression.star-within;
  double_star = expression.double_star-within;
  for_clause = λ n to over target. expression.for_clause-within n to over;
  if_clause = expression.if_clause-within;
  required = expression.required-within;
  optional = expression.optional-within;
  bare = expression.bare-within;
  rest = expression.rest-within;
  keywords = expression.keywords-within;
  entry = expression.entry-within;
}

statements-nested : StatementsKeep nesting
statements-nested = record {
  deeper_stmt = λ inside. statement.deeper-stmt;
  returned_nothing = λ inside line may. statement.returned_nothing-within line;
  returned = λ inside line n value may so. statement.returned-within line n value so;
  breaks = λ inside line may. statement.breaks-within line;
  continues = λ inside line may. statement.continues-within line;
  passes = λ inside line. statement.passes-within line;
  loads = λ inside line n file names may. statement.loads-within line n file names;
  assigned = λ inside line n to value target so also. statement.assigned-within line n to value so
      also;
  changed = λ inside line n place op value named so also. statement.changed-within line n place op
      value so also;
  valued = λ inside line n value so. statement.valued-within line n value so;
  def = λ inside line n name params body less are all some. statement.def-within line n name params
      body less all some;
  branch = λ inside line n test chosen other so all more. statement.branch-within line n test chosen
      other so all more;
  loop = λ inside line n to over body target so also all. statement.loop-within line n to over body
      so also all;
}

greatest-all : {A : Type 0} (depth : A → ℕ) (n : ℕ) (xs : List A)
    → All (λ x. depth x ≤ n) xs
    → greatest (map depth xs) ≤ n
greatest-all depth n [] all = omega arith
greatest-all depth n (x ∷ xs) all = let one = All-head
    (λ y. depth y ≤ n) x xs all in let more = greatest-all depth n xs
    (All-tail (λ y. depth y ≤ n) x xs all) in omega (arith, one, more)

file_with-nested : (free : Names) (body : List BareStmt) (n : ℕ)
    → n ≤ 128
    → All (StmtNested n) body
    → NestedWithin 128 (file_with free body)
file_with-nested free body n few all =
    let made = body-nested free (file_scopes body) n body all in
    record {
      body = le_trans (made.value no_lists) few;
      functions = let added = made.added no_lists in greatest-all depth_of_code 128 _
          (All-same Shallow _ added.more added.is added.right);
    }

with_free-nested : (body : List BareStmt) (n : ℕ)
    → n ≤ 128
    → All (StmtNested n) body
    → (free : Result Names Unbound) (file : File)
    → with_free body free ≡ Ok file
    → NestedWithin 128 file
with_free-nested body n few all (Ok free) file is = subst
    (λ result. IfOk result (NestedWithin 128)) is (file_with-nested free body n few all)
with_free-nested body n few all (Err unbound) file is = subst
    (λ result. IfOk result (NestedWithin 128)) is tt

pub resolved-nested : (dialect : Dialect) (text : List ℕ) (tree : BareFile) (file : File)
    → Spelled text tree
    → resolved dialect tree.body ≡ Ok file
    → NestedWithin 128 file
resolved-nested dialect text tree file so is =
    let all = IsFile-held nesting expressions-nested statements-nested
    (symbols_of text so.tokens) tree so.spelled in
    with_free-nested tree.body all.0 all.1 all.2 (free_names dialect tree.body) file is
