-- What the grammar asks of trees besides, asked of resolved files: the order of arguments and
-- parameters, names that differ, and what may stand only in a function, in a loop or at the top.
-- The Starlark specification, "Function and method calls", "Function definitions", "Assignments",
-- "Statements".
use Rattle.std.specs.Prelude.{◌≡◌, ℕ, Bool, true, false, ◌&&◌, ◌==◌, nat_le, if◌then◌else◌, List}
use Rattle.std.specs.Prelude.{[], ◌∷◌, map, Option, Some, None, option_map}
use Rattle.star_trees.specs.declared.files.File.{File}
use Rattle.star_trees.specs.declared.files.FnBody.{FnBody}
use Rattle.star_trees.specs.declared.files.FnBody.TheVariants as body
use Rattle.star_trees.specs.declared.files.FnCode.{FnCode}
use Rattle.star_trees.specs.declared.files.Param.{Param}
use Rattle.star_trees.specs.declared.files.Param.TheVariants as param
use Rattle.star_trees.specs.declared.trees.Arg.TheOpen.{Arg-F, Clause-F, Expr-F, ExprPair-F}
use Rattle.star_trees.specs.declared.trees.Arg.TheOpen.{Target-F}
use Rattle.star_trees.specs.declared.trees.StmtKind.TheOpen.{StmtKind-F}
use Rattle.star_trees.specs.declared.inside.Inside.{Inside}
use Rattle.star_trees.specs.Lists.{all_different, all_of, may_follow, some_and_all, with_name}
use Rattle.star_trees.specs.Surroundings.{at_top, in_branch, in_function, in_loop}
use Rattle.star_trees.specs.Folds.{ExprValues, StmtValues, fold_arg, fold_clause, fold_expr}
use Rattle.star_trees.specs.Folds.{fold_kind, fold_pair, fold_stmt, fold_target}
use Rattle.star_trees.specs.declared.trees.Arg.{Arg}
use Rattle.star_trees.specs.declared.trees.Clause.{Clause}
use Rattle.star_trees.specs.declared.trees.Expr.{Expr, out-Expr}
use Rattle.star_trees.specs.declared.trees.ExprPair.{ExprPair}
use Rattle.star_trees.specs.declared.trees.Stmt.{Stmt}
use Rattle.star_trees.specs.declared.trees.StmtKind.{StmtKind}
use Rattle.star_trees.specs.declared.trees.Target.{Target}

-- the names that are given
abbrev pub given : List (Option (List ℕ)) → List (List ℕ)
given [] = []
given (name ∷ names) = with_name name (given names)

-- ---- arguments: positional 0, named 1, `*` 2, `**` 3

-- an argument's stage, its name, and whether its value has no refused form
pub record ArgForm : Type 0 where
  pub stage : ℕ
  pub name : Option (List ℕ)
  pub right : Bool

-- each stage may follow the one before it
abbrev pub stages_in_order : ℕ → List ℕ → Bool
stages_in_order last [] = true
stages_in_order last (stage ∷ stages) = may_follow last stage && stages_in_order stage stages

-- in order, and no name stands twice
abbrev pub are_args : List ArgForm → Bool
are_args args =
    stages_in_order 0 (map (λ arg. arg.stage) args)
    && all_different (given (map (λ arg. arg.name) args))

-- ---- expressions

-- whether a clause is a `for`, and whether its parts have no refused form
pub record ClauseForm : Type 0 where
  pub loops : Bool
  pub right : Bool

-- a `for` comes first
abbrev pub first_loops : List ClauseForm → Bool
first_loops [] = false
first_loops (first ∷ more) = first.loops

-- the clauses of a comprehension: a `for` first, and each of them right
abbrev pub are_clauses : List ClauseForm → Bool
are_clauses clauses = first_loops clauses && all_of (map (λ clause. clause.right) clauses)

-- what isn't there is right
abbrev pub maybe_right : Option Bool → Bool
maybe_right None = true
maybe_right (Some right) = right

-- an argument's form by its value
abbrev pub arg_form : Arg-F ArgForm ClauseForm Bool Bool Bool → ArgForm
arg_form (Arg-F.Positional value) = record { stage = 0; name = None; right = value }
arg_form (Arg-F.Named name value) = record { stage = 1; name = Some name; right = value }
arg_form (Arg-F.Star value) = record { stage = 2; name = None; right = value }
arg_form (Arg-F.DoubleStar value) = record { stage = 3; name = None; right = value }

-- a clause's form by its parts
abbrev pub clause_form : Clause-F ArgForm ClauseForm Bool Bool Bool → ClauseForm
clause_form (Clause-F.For to over) = record { loops = true; right = to && over }
clause_form (Clause-F.If test) = record { loops = false; right = test }

-- the arguments of each call are in order, and each comprehension has a `for` as its first clause
abbrev pub expr_right : Expr-F ArgForm ClauseForm Bool Bool Bool → Bool
expr_right (Expr-F.Expr::Name variable) = true
expr_right (Expr-F.Int value) = true
expr_right (Expr-F.Text text) = true
expr_right (Expr-F.List items) = all_of items
expr_right (Expr-F.Tuple items) = all_of items
expr_right (Expr-F.Dict pairs) = all_of pairs
expr_right (Expr-F.ListComp item clauses) = item && are_clauses clauses
expr_right (Expr-F.DictComp key value clauses) = (key && value) && are_clauses clauses
expr_right (Expr-F.Unary op operand) = operand
expr_right (Expr-F.Binary op left right) = left && right
expr_right (Expr-F.Cond test chosen other) = test && (chosen && other)
expr_right (Expr-F.Lambda index) = true
expr_right (Expr-F.Attr container name) = container
expr_right (Expr-F.Expr::Index container at) = container && at
expr_right (Expr-F.Slice container begin end step) =
    container && (maybe_right begin && (maybe_right end && maybe_right step))
expr_right (Expr-F.Call function args) =
    function && (are_args args && all_of (map (λ arg. arg.right) args))

-- both parts are right
abbrev pub pair_right : ExprPair-F ArgForm ClauseForm Bool Bool Bool → Bool
pair_right pair = pair.key && pair.value

-- several targets are one at least
abbrev pub target_right : Target-F ArgForm ClauseForm Bool Bool Bool → Bool
target_right (Target-F.Target::Name name) = true
target_right (Target-F.Target::Index container at) = container && at
target_right (Target-F.Many targets) = some_and_all targets

-- the forms of the trees of expressions
abbrev pub expr_forms : ExprValues ArgForm ClauseForm Bool Bool Bool
expr_forms = record {
  arg = arg_form;
  clause = clause_form;
  expr = expr_right;
  target = target_right;
  pair = pair_right;
}

-- the form of an argument
abbrev pub form_of_arg : Arg → ArgForm
form_of_arg = fold_arg expr_forms

-- the form of a clause
abbrev pub form_of_clause : Clause → ClauseForm
form_of_clause = fold_clause expr_forms

-- whether an expression has no refused form
abbrev pub right_expr : Expr → Bool
right_expr = fold_expr expr_forms

-- whether an entry has no refused form
abbrev pub right_pair : ExprPair → Bool
right_pair = fold_pair expr_forms

-- whether a target has no refused form
abbrev pub right_target : Target → Bool
right_target = fold_target expr_forms

-- ---- statements

-- whether an expression, opened once, is a name or an index
abbrev pub is_assignable_layer : Expr-F Arg Clause Expr Target ExprPair → Bool
is_assignable_layer (Expr-F.Expr::Name variable) = true
is_assignable_layer (Expr-F.Expr::Index container at) = true
is_assignable_layer _ = false

-- what an augmented assignment may be to
unfoldable pub is_assignable : Expr → Bool
is_assignable expression = is_assignable_layer (out-Expr expression)

-- each may stand inside what stands round them
abbrev pub all_stand : List (Inside → Bool) → Inside → Bool
all_stand [] inside = true
all_stand (one ∷ more) inside = one inside && all_stand more inside

-- `return` stands in a function, `break` and `continue` in a loop of the same function, and `load`
-- at the top
abbrev pub kind_stands : StmtKind-F (Inside → Bool) (Inside → Bool) → Inside → Bool
kind_stands (StmtKind-F.Def index to) inside = true
kind_stands (StmtKind-F.If test chosen other) inside =
    right_expr test && (all_stand chosen (in_branch inside) && all_stand other (in_branch inside))
kind_stands (StmtKind-F.For to over body) inside =
    right_target to && (right_expr over && all_stand body (in_loop inside))
kind_stands (StmtKind-F.Return value) inside =
    inside.function && maybe_right (option_map right_expr value)
kind_stands StmtKind-F.Break inside = inside.looping
kind_stands StmtKind-F.Continue inside = inside.looping
kind_stands StmtKind-F.Pass inside = true
kind_stands (StmtKind-F.Load index) inside = inside.top
kind_stands (StmtKind-F.Assign to value) inside = right_target to && right_expr value
kind_stands (StmtKind-F.Augment to op value) inside =
    is_assignable to && (right_expr to && right_expr value)
kind_stands (StmtKind-F.Value value) inside = right_expr value

-- where statements may stand
abbrev pub stmt_forms : StmtValues (Inside → Bool) (Inside → Bool)
stmt_forms = record { kind = kind_stands; stmt = λ stmt. stmt.kind }

-- whether what a statement says may stand inside what stands round it
abbrev pub stands_as : StmtKind → Inside → Bool
stands_as = fold_kind stmt_forms

-- whether a statement may stand inside what stands round it
abbrev pub stands : Stmt → Inside → Bool
stands = fold_stmt stmt_forms

-- ---- functions

-- the stage that a parameter is at behind one of the given stage, unless it may not stand there:
-- required 0, optional 1, `*` 2, keyword-only 3, `**` 4
abbrev pub param_stage : ℕ → Param → Option ℕ
param_stage last (param.Required name) =
    if last == 0 then Some 0 else (if nat_le 2 last && nat_le last 3 then Some 3 else None)
param_stage last (param.Optional name default) =
    if nat_le last 1 then Some 1 else (if nat_le last 3 then Some 3 else None)
param_stage last param.Bare = if nat_le last 1 then Some 2 else None
param_stage last (param.Rest name) = if nat_le last 1 then Some 2 else None
param_stage last (param.Keywords name) = if nat_le last 3 then Some 4 else None

-- each parameter may stand at the stage that is reached
abbrev pub params_in_order : Option ℕ → List Param → Bool
params_in_order None params = false
params_in_order (Some last) [] = true
params_in_order (Some last) (param ∷ params) = params_in_order (param_stage last param) params

-- the name of a parameter that has one
abbrev pub param_name : Param → Option (List ℕ)
param_name (param.Required name) = Some name
param_name (param.Optional name default) = Some name
param_name param.Bare = None
param_name (param.Rest name) = Some name
param_name (param.Keywords name) = Some name

-- in order, and no name stands twice
unfoldable pub are_params : List Param → Bool
are_params params = params_in_order (Some 0) params && all_different (given (map param_name params))

-- a parameter's default is right
abbrev pub right_param : Param → Bool
right_param (param.Required name) = true
right_param (param.Optional name default) = right_expr default
right_param param.Bare = true
right_param (param.Rest name) = true
right_param (param.Keywords name) = true

-- a `def` has a name and statements, a `lambda` no name and a value
abbrev pub right_body : Option (List ℕ) → FnBody → Bool
right_body (Some name) (body.Block statements) = all_stand (map stands statements) in_function
right_body (Some name) (body.Value value) = false
right_body None (body.Block statements) = false
right_body None (body.Value value) = right_expr value

-- the parameters are in order, their defaults are right, and so is the body
abbrev pub right_code : FnCode → Bool
right_code code =
    are_params code.params
    && (all_of (map right_param code.params) && right_body code.name code.body)

-- Each statement of the file may stand at the top, and each of its functions is a `def` or a
-- `lambda` that may stand.
pub record HasNoRefusedForm (file : File) : Type 0 where
  pub body : all_stand (map stands file.body) at_top ≡ true
  pub functions : all_of (map right_code file.functions) ≡ true
