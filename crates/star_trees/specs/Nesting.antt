-- How deep the trees of a file are: what isn't split further counts 1, and a construct counts one
-- more than its deepest part.
use Rattle.std.specs.Prelude.{ℕ, ◌+◌, ◌≤◌, max, map, option_map}
use Rattle.star_trees.specs.Indexes.{greatest, number_or_zero}
use Rattle.star_trees.specs.declared.files.File.{File}
use Rattle.star_trees.specs.declared.files.FnBody.{FnBody}
use Rattle.star_trees.specs.declared.files.FnBody.TheVariants as body
use Rattle.star_trees.specs.declared.files.FnCode.{FnCode}
use Rattle.star_trees.specs.declared.files.Param.{Param}
use Rattle.star_trees.specs.declared.files.Param.TheVariants as param
use Rattle.star_trees.specs.declared.trees.Arg.TheOpen.{Arg-F, Clause-F, Expr-F, ExprPair-F}
use Rattle.star_trees.specs.declared.trees.Arg.TheOpen.{Target-F}
use Rattle.star_trees.specs.declared.trees.StmtKind.TheOpen.{StmtKind-F}
use Rattle.star_trees.specs.Folds.{ExprValues, StmtValues, fold_arg, fold_clause, fold_expr}
use Rattle.star_trees.specs.Folds.{fold_kind, fold_pair, fold_stmt, fold_target}
use Rattle.star_trees.specs.declared.trees.Arg.{Arg}
use Rattle.star_trees.specs.declared.trees.Clause.{Clause}
use Rattle.star_trees.specs.declared.trees.Expr.{Expr}
use Rattle.star_trees.specs.declared.trees.ExprPair.{ExprPair}
use Rattle.star_trees.specs.declared.trees.Stmt.{Stmt}
use Rattle.star_trees.specs.declared.trees.StmtKind.{StmtKind}
use Rattle.star_trees.specs.declared.trees.Target.{Target}

-- how many constructs may be open at one place of a text
abbrev pub deepest : ℕ
deepest = 128

-- an argument is as deep as its value
abbrev pub arg_depth : Arg-F ℕ ℕ ℕ ℕ ℕ → ℕ
arg_depth (Arg-F.Positional value) = value
arg_depth (Arg-F.Named name value) = value
arg_depth (Arg-F.Star value) = value
arg_depth (Arg-F.DoubleStar value) = value

-- a clause is as deep as its deepest part
abbrev pub clause_depth : Clause-F ℕ ℕ ℕ ℕ ℕ → ℕ
clause_depth (Clause-F.For to over) = max to over
clause_depth (Clause-F.If test) = test

-- a function is judged by itself, so that its index counts 1
abbrev pub expr_depth : Expr-F ℕ ℕ ℕ ℕ ℕ → ℕ
expr_depth (Expr-F.Expr::Name variable) = 1
expr_depth (Expr-F.Int value) = 1
expr_depth (Expr-F.Text text) = 1
expr_depth (Expr-F.List items) = greatest items + 1
expr_depth (Expr-F.Tuple items) = greatest items + 1
expr_depth (Expr-F.Dict pairs) = greatest pairs + 1
expr_depth (Expr-F.ListComp item clauses) = max item (greatest clauses) + 1
expr_depth (Expr-F.DictComp key value clauses) = max (max key value) (greatest clauses) + 1
expr_depth (Expr-F.Unary op operand) = operand + 1
expr_depth (Expr-F.Binary op left right) = max left right + 1
expr_depth (Expr-F.Cond test chosen other) = max test (max chosen other) + 1
expr_depth (Expr-F.Lambda index) = 1
expr_depth (Expr-F.Attr container name) = container + 1
expr_depth (Expr-F.Expr::Index container at) = max container at + 1
expr_depth (Expr-F.Slice container begin end step) =
    max container (max (number_or_zero begin) (max (number_or_zero end) (number_or_zero step))) + 1
expr_depth (Expr-F.Call function args) = max function (greatest args) + 1

-- a pair is as deep as its deeper part
abbrev pub pair_depth : ExprPair-F ℕ ℕ ℕ ℕ ℕ → ℕ
pair_depth pair = max pair.key pair.value

-- a name counts 1, as in an expression
abbrev pub target_depth : Target-F ℕ ℕ ℕ ℕ ℕ → ℕ
target_depth (Target-F.Target::Name name) = 1
target_depth (Target-F.Target::Index container at) = max container at + 1
target_depth (Target-F.Many targets) = greatest targets + 1

-- the depths of the trees of expressions
abbrev pub expr_depths : ExprValues ℕ ℕ ℕ ℕ ℕ
expr_depths = record {
  arg = arg_depth;
  clause = clause_depth;
  expr = expr_depth;
  target = target_depth;
  pair = pair_depth;
}

-- the depth of an argument
abbrev pub depth_of_arg : Arg → ℕ
depth_of_arg = fold_arg expr_depths

-- the depth of a clause
abbrev pub depth_of_clause : Clause → ℕ
depth_of_clause = fold_clause expr_depths

-- the depth of an expression
abbrev pub depth_of_expr : Expr → ℕ
depth_of_expr = fold_expr expr_depths

-- the depth of an entry
abbrev pub depth_of_pair : ExprPair → ℕ
depth_of_pair = fold_pair expr_depths

-- the depth of a target
abbrev pub depth_of_target : Target → ℕ
depth_of_target = fold_target expr_depths

-- a statement by what it says
abbrev pub kind_depth : StmtKind-F ℕ ℕ → ℕ
kind_depth (StmtKind-F.Def index to) = 1
kind_depth (StmtKind-F.If test chosen other) =
    max (depth_of_expr test) (max (greatest chosen) (greatest other)) + 1
kind_depth (StmtKind-F.For to over body) =
    max (depth_of_target to) (max (depth_of_expr over) (greatest body)) + 1
kind_depth (StmtKind-F.Return value) = number_or_zero (option_map depth_of_expr value) + 1
kind_depth StmtKind-F.Break = 1
kind_depth StmtKind-F.Continue = 1
kind_depth StmtKind-F.Pass = 1
kind_depth (StmtKind-F.Load index) = 1
kind_depth (StmtKind-F.Assign to value) = max (depth_of_target to) (depth_of_expr value) + 1
kind_depth (StmtKind-F.Augment to op value) = max (depth_of_expr to) (depth_of_expr value) + 1
kind_depth (StmtKind-F.Value value) = depth_of_expr value + 1

-- the depths of statements
abbrev pub stmt_depths : StmtValues ℕ ℕ
stmt_depths = record { kind = kind_depth; stmt = λ stmt. stmt.kind }

-- the depth of what a statement says
abbrev pub depth_of_kind : StmtKind → ℕ
depth_of_kind = fold_kind stmt_depths

-- the depth of a statement
abbrev pub depth_of_stmt : Stmt → ℕ
depth_of_stmt = fold_stmt stmt_depths

-- a parameter without a default counts 1
abbrev pub depth_of_param : Param → ℕ
depth_of_param (param.Required name) = 1
depth_of_param (param.Optional name default) = depth_of_expr default
depth_of_param param.Bare = 1
depth_of_param (param.Rest name) = 1
depth_of_param (param.Keywords name) = 1

-- a block is as deep as its deepest statement
abbrev pub depth_of_body : FnBody → ℕ
depth_of_body (body.Block statements) = greatest (map depth_of_stmt statements)
depth_of_body (body.Value value) = depth_of_expr value

-- the code of a function is the `def` or the `lambda` itself
abbrev pub depth_of_code : FnCode → ℕ
depth_of_code code = max (greatest (map depth_of_param code.params)) (depth_of_body code.body) + 1

-- No statement and no function of the file is deeper than so much.
pub record NestedWithin (limit : ℕ) (file : File) : Type 0 where
  pub body : greatest (map depth_of_stmt file.body) ≤ limit
  pub functions : greatest (map depth_of_code file.functions) ≤ limit
