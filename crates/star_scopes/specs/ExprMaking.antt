-- The trees that are made of expressions, in the order of the text: each function takes its place
-- where it begins.
use Rattle.std.specs.Prelude.{ℕ, List, [], ◌∷◌, map, Option, Some, None}
use Rattle.star_trees.specs.declared.files.FnBody.TheVariants as body_tree
use Rattle.star_trees.specs.declared.files.FnCode.{FnCode}
use Rattle.star_trees.specs.declared.files.Param.{Param}
use Rattle.star_trees.specs.declared.files.Param.TheVariants as param_tree
use Rattle.star_trees.specs.declared.trees.Arg.{Arg}
use Rattle.star_trees.specs.declared.trees.Arg as arg_tree
use Rattle.star_trees.specs.declared.trees.BinOp.{BinOp}
use Rattle.star_trees.specs.declared.trees.UnOp.{UnOp}
use Rattle.star_trees.specs.declared.trees.Clause.{Clause}
use Rattle.star_trees.specs.declared.trees.Clause as clause_tree
use Rattle.star_trees.specs.declared.trees.Expr.{Expr}
use Rattle.star_trees.specs.declared.trees.Expr as e
use Rattle.star_trees.specs.declared.trees.ExprPair.{ExprPair, roll-ExprPair}
use Rattle.star_trees.specs.declared.trees.Target.{Target}
use Rattle.star_trees.specs.declared.trees.Target as target_tree
use Rattle.star_grammar.specs.declared.bare_expressions.BareArg.TheOpen.{BareArg-F, BareClause-F}
use Rattle.star_grammar.specs.declared.bare_expressions.BareArg.TheOpen.{BareExpr-F, BareParam-F}
use Rattle.star_trees.specs.Variables.{Names, variables}
use Rattle.star_scopes.specs.Binds.{ClauseLayer, ExprLayer, ParamLayer}
use Rattle.star_scopes.specs.Making.{Making, ◌>>=◌, ◌>>◌, pure, each, begin, finish}
use Rattle.star_scopes.specs.Meanings.{ArgMeaning, ClauseMeaning, ExprMeaning, PairMeaning}
use Rattle.star_scopes.specs.Meanings.{ParamMeaning}
use Rattle.star_scopes.specs.Scopes.{variable}

-- the code of a `lambda`
abbrev pub lambda_code : List Param → Expr → ℕ → FnCode
lambda_code params body line = record
    { name = None; params = params; body = body_tree.Value body; line = line }

module _ (free : Names) (scopes : List Names) where
  unfoldable pub items_made : List ExprMeaning → Making (List Expr)
  items_made items = each (map (λ item. item.expr free scopes) items)

  unfoldable pub pairs_made : List PairMeaning → Making (List ExprPair)
  pairs_made pairs = each (map (λ pair. pair.pair free scopes) pairs)

  unfoldable pub args_made : List ArgMeaning → Making (List Arg)
  args_made args = each (map (λ arg. arg.arg free scopes) args)

  unfoldable pub params_made : List ParamMeaning → Making (List Param)
  params_made params = each (map (λ param. param.param free scopes) params)

  unfoldable pub targets_made : List ExprMeaning → Making (List Target)
  targets_made targets = each (map (λ target. target.target free scopes) targets)

  unfoldable pub maybe_made : Option ExprMeaning → Making (Option Expr)
  maybe_made None = pure None
  maybe_made (Some bound) = do
    made ← bound.expr free scopes
    pure (Some made)

  unfoldable pub list_made : List ExprMeaning → Making Expr
  list_made items = do
    made ← items_made items
    pure (e.List made)

  unfoldable pub tuple_made : List ExprMeaning → Making Expr
  tuple_made items = do
    made ← items_made items
    pure (e.Tuple made)

  unfoldable pub dict_made : List PairMeaning → Making Expr
  dict_made pairs = do
    made ← pairs_made pairs
    pure (e.Dict made)

  unfoldable pub more_clauses_made : List Names → List ClauseMeaning → Making (List Clause)
  more_clauses_made inner clauses = each (map (λ clause. clause.clause free inner inner) clauses)

  -- the operand of the first `in` stands outside the comprehension
  unfoldable pub some_clauses_made : List Names
      → ClauseMeaning
      → List ClauseMeaning
      → Making (List Clause)
  some_clauses_made inner first more = do
    made ← first.clause free inner scopes
    others ← more_clauses_made inner more
    pure (made ∷ others)

  unfoldable pub clauses_made : List Names → List ClauseMeaning → Making (List Clause)
  clauses_made inner [] = pure []
  clauses_made inner (first ∷ more) = some_clauses_made inner first more

  unfoldable pub list_comp_made : ExprMeaning → List ClauseMeaning → Making Expr
  list_comp_made item clauses =
      let inner = variables (map (λ clause. clause.bound) clauses) ∷ scopes in do
        made ← item.expr free inner
        made_clauses ← clauses_made inner clauses
        pure (e.ListComp made made_clauses)

  unfoldable pub dict_comp_made : ExprMeaning → ExprMeaning → List ClauseMeaning → Making Expr
  dict_comp_made key value clauses =
      let inner = variables (map (λ clause. clause.bound) clauses) ∷ scopes in do
        made_key ← key.expr free inner
        made ← value.expr free inner
        made_clauses ← clauses_made inner clauses
        pure (e.DictComp made_key made made_clauses)

  unfoldable pub unary_made : UnOp → ExprMeaning → Making Expr
  unary_made op operand = do
    made ← operand.expr free scopes
    pure (e.Unary op made)

  unfoldable pub binary_made : BinOp → ExprMeaning → ExprMeaning → Making Expr
  binary_made op left right = do
    made_left ← left.expr free scopes
    made_right ← right.expr free scopes
    pure (e.Binary op made_left made_right)

  unfoldable pub cond_made : ExprMeaning → ExprMeaning → ExprMeaning → Making Expr
  cond_made test chosen other = do
    made_chosen ← chosen.expr free scopes
    made_test ← test.expr free scopes
    made_other ← other.expr free scopes
    pure (e.Cond made_test made_chosen made_other)

  -- the defaults stand outside the function
  unfoldable pub lambda_made : List ParamMeaning → ExprMeaning → ℕ → Making Expr
  lambda_made params body line = do
    place ← begin
    made_params ← params_made params
    made_body ← body.expr free (variables (map (λ param. param.bound) params) ∷ scopes)
    finish place (lambda_code made_params made_body line)
    pure (e.Lambda place)

  unfoldable pub attr_made : ExprMeaning → List ℕ → Making Expr
  attr_made container name = do
    made ← container.expr free scopes
    pure (e.Attr made name)

  unfoldable pub index_made : ExprMeaning → ExprMeaning → Making Expr
  index_made container at = do
    made ← container.expr free scopes
    made_at ← at.expr free scopes
    pure (e.Index made made_at)

  unfoldable pub slice_made : ExprMeaning
      → Option ExprMeaning
      → Option ExprMeaning
      → Option ExprMeaning
      → Making Expr
  slice_made container begin end step = do
    made ← container.expr free scopes
    made_begin ← maybe_made begin
    made_end ← maybe_made end
    made_step ← maybe_made step
    pure (e.Slice made made_begin made_end made_step)

  unfoldable pub call_made : ExprMeaning → List ArgMeaning → Making Expr
  call_made function args = do
    made ← function.expr free scopes
    made_args ← args_made args
    pure (e.Call made made_args)

  unfoldable pub index_target : ExprMeaning → ExprMeaning → Making Target
  index_target container at = do
    made ← container.expr free scopes
    made_at ← at.expr free scopes
    pure (target_tree.Index made made_at)

  unfoldable pub many_target : List ExprMeaning → Making Target
  many_target targets = do
    made ← targets_made targets
    pure (target_tree.Many made)

abbrev pub expr_made : ExprLayer → Names → List Names → Making Expr
expr_made (BareExpr-F.Name name) free scopes = pure (e.Name (variable free scopes name.name))
expr_made (BareExpr-F.Int value) free scopes = pure (e.Int value)
expr_made (BareExpr-F.Text text) free scopes = pure (e.Text text)
expr_made (BareExpr-F.List items) free scopes = list_made free scopes items
expr_made (BareExpr-F.Tuple items) free scopes = tuple_made free scopes items
expr_made (BareExpr-F.Dict pairs) free scopes = dict_made free scopes pairs
expr_made (BareExpr-F.ListComp item clauses) free scopes = list_comp_made free scopes item clauses
expr_made (BareExpr-F.DictComp key value clauses) free scopes = dict_comp_made free scopes key value
    clauses
expr_made (BareExpr-F.Bracketed inside) free scopes = inside.expr free scopes
expr_made (BareExpr-F.Unary op operand) free scopes = unary_made free scopes op operand
expr_made (BareExpr-F.Binary op left right) free scopes = binary_made free scopes op left right
expr_made (BareExpr-F.Cond test chosen other) free scopes = cond_made free scopes test chosen other
expr_made (BareExpr-F.Lambda params body line) free scopes = lambda_made free scopes params body
    line
expr_made (BareExpr-F.Attr container name) free scopes = attr_made free scopes container name
expr_made (BareExpr-F.Index container at) free scopes = index_made free scopes container at
expr_made (BareExpr-F.Slice container begin end step) free scopes = slice_made free scopes container
    begin end step
expr_made (BareExpr-F.Call function args) free scopes = call_made free scopes function args

-- what is no target, and so never stands as one, would bind nothing
abbrev pub target_made : ExprLayer → Names → List Names → Making Target
target_made (BareExpr-F.Name name) free scopes = pure
    (target_tree.Name (variable free scopes name.name))
target_made (BareExpr-F.Index container at) free scopes = index_target free scopes container at
target_made (BareExpr-F.Bracketed target) free scopes = target.target free scopes
target_made (BareExpr-F.Tuple targets) free scopes = many_target free scopes targets
target_made (BareExpr-F.List targets) free scopes = many_target free scopes targets
target_made _ free scopes = pure (target_tree.Many [])

unfoldable pub named_arg_made : Names → List Names → List ℕ → ExprMeaning → Making Arg
named_arg_made free scopes name value = do
  made ← value.expr free scopes
  pure (arg_tree.Named name made)

unfoldable pub optional_made : Names → List Names → List ℕ → ExprMeaning → Making Param
optional_made free scopes name default = do
  made ← default.expr free scopes
  pure (param_tree.Optional name made)

abbrev pub arg_made : BareArg-F ArgMeaning ClauseMeaning ExprMeaning ParamMeaning PairMeaning
    → Names
    → List Names
    → Making Arg
arg_made (BareArg-F.Positional value) free scopes = value.expr free scopes >>=
    (λ made. pure (arg_tree.Positional made))
arg_made (BareArg-F.Named name value) free scopes = named_arg_made free scopes name value
arg_made (BareArg-F.Star value line) free scopes = value.expr free scopes >>=
    (λ made. pure (arg_tree.Star made))
arg_made (BareArg-F.DoubleStar value line) free scopes = value.expr free scopes >>=
    (λ made. pure (arg_tree.DoubleStar made))

abbrev pub param_made : ParamLayer → Names → List Names → Making Param
param_made (BareParam-F.Required name) free scopes = pure (param_tree.Required name)
param_made (BareParam-F.Optional name default) free scopes = optional_made free scopes name default
param_made (BareParam-F.Bare line) free scopes = pure param_tree.Bare
param_made (BareParam-F.Rest name line) free scopes = pure (param_tree.Rest name)
param_made (BareParam-F.Keywords name line) free scopes = pure (param_tree.Keywords name)

unfoldable pub pair_made : Names → List Names → ExprMeaning → ExprMeaning → Making ExprPair
pair_made free scopes key value = do
  made_key ← key.expr free scopes
  made ← value.expr free scopes
  pure (roll-ExprPair (record { key = made_key; value = made }))

unfoldable pub for_clause_made : Names
    → List Names
    → List Names
    → ExprMeaning
    → ExprMeaning
    → Making Clause
for_clause_made free inner around to over = do
  made_to ← to.target free inner
  made ← over.expr free around
  pure (clause_tree.For made_to made)

abbrev pub clause_made : ClauseLayer → Names → List Names → List Names → Making Clause
clause_made (BareClause-F.For to over) free inner around = for_clause_made free inner around to over
clause_made (BareClause-F.If test) free inner around = test.expr free inner >>=
    (λ made. pure (clause_tree.If made))
