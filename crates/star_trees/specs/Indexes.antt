-- The indexes of functions and loads of a file that stand in its trees.
use Rattle.std.specs.Prelude.{ℕ, ◌+◌, ◌≤◌, max, List, [], ◌∷◌, length, map, Option, Some, None}
use Rattle.std.specs.Prelude.{option_map}
use Rattle.star_trees.specs.declared.files.File.{File}
use Rattle.star_trees.specs.declared.files.FnBody.{FnBody}
use Rattle.star_trees.specs.declared.files.FnBody.TheVariants as body
use Rattle.star_trees.specs.declared.files.FnCode.{FnCode}
use Rattle.star_trees.specs.declared.files.Param.{Param}
use Rattle.star_trees.specs.declared.files.Param.TheVariants as param
use Rattle.star_trees.specs.declared.trees.Arg.TheOpen.{Arg-F, Clause-F, Expr-F, ExprPair-F}
use Rattle.star_trees.specs.declared.trees.Arg.TheOpen.{Target-F}
use Rattle.star_trees.specs.declared.trees.StmtKind.TheOpen.{StmtKind-F}
use Rattle.star_trees.specs.Folds.{ExprValues, StmtValues, fold_arg, fold_clause, fold_expr}
use Rattle.star_trees.specs.Folds.{fold_kind, fold_pair, fold_stmt, fold_target}
use Rattle.star_trees.specs.declared.trees.Arg.{Arg}
use Rattle.star_trees.specs.declared.trees.Clause.{Clause}
use Rattle.star_trees.specs.declared.trees.Expr.{Expr}
use Rattle.star_trees.specs.declared.trees.ExprPair.{ExprPair}
use Rattle.star_trees.specs.declared.trees.Stmt.{Stmt}
use Rattle.star_trees.specs.declared.trees.StmtKind.{StmtKind}
use Rattle.star_trees.specs.declared.trees.Target.{Target}

-- the greatest of some numbers, 0 where there is none
abbrev pub greatest : List ℕ → ℕ
greatest [] = 0
greatest (n ∷ more) = max n (greatest more)

-- a number, or 0 where there is none
abbrev pub number_or_zero : Option ℕ → ℕ
number_or_zero (Some n) = n
number_or_zero None = 0

-- ---- functions: one more than the greatest index of a function in a tree, 0 where there is none

-- those of an argument, by its value
abbrev pub arg_functions : Arg-F ℕ ℕ ℕ ℕ ℕ → ℕ
arg_functions (Arg-F.Positional value) = value
arg_functions (Arg-F.Named name value) = value
arg_functions (Arg-F.Star value) = value
arg_functions (Arg-F.DoubleStar value) = value

-- those of a clause, by its parts
abbrev pub clause_functions : Clause-F ℕ ℕ ℕ ℕ ℕ → ℕ
clause_functions (Clause-F.For to over) = max to over
clause_functions (Clause-F.If test) = test

-- a `lambda` speaks of its function, and an expression of those of its parts
abbrev pub expr_functions : Expr-F ℕ ℕ ℕ ℕ ℕ → ℕ
expr_functions (Expr-F.List items) = greatest items
expr_functions (Expr-F.Tuple items) = greatest items
expr_functions (Expr-F.Dict pairs) = greatest pairs
expr_functions (Expr-F.ListComp item clauses) = max item (greatest clauses)
expr_functions (Expr-F.DictComp key value clauses) = max (max key value) (greatest clauses)
expr_functions (Expr-F.Unary op operand) = operand
expr_functions (Expr-F.Binary op left right) = max left right
expr_functions (Expr-F.Cond test chosen other) = max test (max chosen other)
expr_functions (Expr-F.Lambda index) = index + 1
expr_functions (Expr-F.Attr container name) = container
expr_functions (Expr-F.Expr::Index container at) = max container at
expr_functions (Expr-F.Slice container begin end step) =
    max container (max (number_or_zero begin) (max (number_or_zero end) (number_or_zero step)))
expr_functions (Expr-F.Call function args) = max function (greatest args)
expr_functions _ = 0

-- those of an entry, by its parts
abbrev pub pair_functions : ExprPair-F ℕ ℕ ℕ ℕ ℕ → ℕ
pair_functions pair = max pair.key pair.value

-- those of a target, by its parts
abbrev pub target_functions : Target-F ℕ ℕ ℕ ℕ ℕ → ℕ
target_functions (Target-F.Target::Name name) = 0
target_functions (Target-F.Target::Index container at) = max container at
target_functions (Target-F.Many targets) = greatest targets

-- the indexes of functions in the trees of expressions
abbrev pub expr_indexes : ExprValues ℕ ℕ ℕ ℕ ℕ
expr_indexes = record {
  arg = arg_functions;
  clause = clause_functions;
  expr = expr_functions;
  target = target_functions;
  pair = pair_functions;
}

-- those of an argument
abbrev pub functions_of_arg : Arg → ℕ
functions_of_arg = fold_arg expr_indexes

-- those of a clause
abbrev pub functions_of_clause : Clause → ℕ
functions_of_clause = fold_clause expr_indexes

-- those of an expression
abbrev pub functions_of_expr : Expr → ℕ
functions_of_expr = fold_expr expr_indexes

-- those of an entry
abbrev pub functions_of_pair : ExprPair → ℕ
functions_of_pair = fold_pair expr_indexes

-- those of a target
abbrev pub functions_of_target : Target → ℕ
functions_of_target = fold_target expr_indexes

-- a `def` speaks of its function, and a statement of those of its parts
abbrev pub kind_functions : StmtKind-F ℕ ℕ → ℕ
kind_functions (StmtKind-F.Def index to) = index + 1
kind_functions (StmtKind-F.If test chosen other) =
    max (functions_of_expr test) (max (greatest chosen) (greatest other))
kind_functions (StmtKind-F.For to over body) =
    max (functions_of_target to) (max (functions_of_expr over) (greatest body))
kind_functions (StmtKind-F.Return value) = number_or_zero (option_map functions_of_expr value)
kind_functions (StmtKind-F.Assign to value) = max (functions_of_target to) (functions_of_expr value)
kind_functions (StmtKind-F.Augment to op value) =
    max (functions_of_expr to) (functions_of_expr value)
kind_functions (StmtKind-F.Value value) = functions_of_expr value
kind_functions _ = 0

-- the indexes of functions in statements
abbrev pub stmt_indexes : StmtValues ℕ ℕ
stmt_indexes = record { kind = kind_functions; stmt = λ stmt. stmt.kind }

-- those of what a statement says
abbrev pub functions_of_kind : StmtKind → ℕ
functions_of_kind = fold_kind stmt_indexes

-- those of a statement
abbrev pub functions_of_stmt : Stmt → ℕ
functions_of_stmt = fold_stmt stmt_indexes

-- those of a parameter's default
abbrev pub functions_of_param : Param → ℕ
functions_of_param (param.Optional name default) = functions_of_expr default
functions_of_param _ = 0

-- those of the body of a function
abbrev pub functions_of_body : FnBody → ℕ
functions_of_body (body.Block statements) = greatest (map functions_of_stmt statements)
functions_of_body (body.Value value) = functions_of_expr value

-- those of the code of a function
abbrev pub functions_of_code : FnCode → ℕ
functions_of_code code =
    max (greatest (map functions_of_param code.params)) (functions_of_body code.body)

-- ---- loads: one more than the greatest index of a load in a tree, 0 where there is none

-- a `load` speaks of itself, and a statement of those of its parts
abbrev pub kind_loads : StmtKind-F ℕ ℕ → ℕ
kind_loads (StmtKind-F.If test chosen other) = max (greatest chosen) (greatest other)
kind_loads (StmtKind-F.For to over body) = greatest body
kind_loads (StmtKind-F.Load index) = index + 1
kind_loads _ = 0

-- the indexes of loads in statements
abbrev pub load_indexes : StmtValues ℕ ℕ
load_indexes = record { kind = kind_loads; stmt = λ stmt. stmt.kind }

-- those of what a statement says
abbrev pub loads_of_kind : StmtKind → ℕ
loads_of_kind = fold_kind load_indexes

-- those of a statement
abbrev pub loads_of_stmt : Stmt → ℕ
loads_of_stmt = fold_stmt load_indexes

-- those of the body of a function
abbrev pub loads_of_body : FnBody → ℕ
loads_of_body (body.Block statements) = greatest (map loads_of_stmt statements)
loads_of_body (body.Value value) = 0

-- those of the code of a function
abbrev pub loads_of_code : FnCode → ℕ
loads_of_code code = loads_of_body code.body

-- ---- files

-- Each index that stands in the body of a file or in the code of its functions is one of its
-- functions or of its loads.
pub record IndexesAreThere (file : File) : Type 0 where
  pub body_functions : greatest (map functions_of_stmt file.body) ≤ length file.functions
  pub body_loads : greatest (map loads_of_stmt file.body) ≤ length file.loads
  pub code_functions : greatest (map functions_of_code file.functions) ≤ length file.functions
  pub code_loads : greatest (map loads_of_code file.functions) ≤ length file.loads
