-- Values that are given to trees, from the leaves up: a construct's value is told by those of its
-- parts.
use Rattle.star_trees.specs.declared.trees.Arg.{Arg, fold-Arg}
use Rattle.star_trees.specs.declared.trees.Arg.TheOpen.{Arg-F, Clause-F, Expr-F, ExprPair-F}
use Rattle.star_trees.specs.declared.trees.Arg.TheOpen.{Target-F}
use Rattle.star_trees.specs.declared.trees.Clause.{Clause, fold-Clause}
use Rattle.star_trees.specs.declared.trees.Expr.{Expr, fold-Expr}
use Rattle.star_trees.specs.declared.trees.ExprPair.{ExprPair, fold-ExprPair}
use Rattle.star_trees.specs.declared.trees.Stmt.{Stmt, fold-Stmt}
use Rattle.star_trees.specs.declared.trees.StmtKind.TheOpen.{Stmt-F, StmtKind-F}
use Rattle.star_trees.specs.declared.trees.StmtKind.{StmtKind, fold-StmtKind}
use Rattle.star_trees.specs.declared.trees.Target.{Target, fold-Target}

-- the value of each construct of an expression, by those of its parts
pub record ExprValues (A C E T P : Type 0) : Type 0 where
  pub arg : Arg-F A C E T P → A
  pub clause : Clause-F A C E T P → C
  pub expr : Expr-F A C E T P → E
  pub target : Target-F A C E T P → T
  pub pair : ExprPair-F A C E T P → P

module _ {A C E T P : Type 0} (values : ExprValues A C E T P) where
  -- the value of an argument
  unfoldable pub fold_arg : Arg → A
  fold_arg =
      fold-Arg A C E T P values.arg values.clause values.expr values.target values.pair

  -- the value of a clause
  unfoldable pub fold_clause : Clause → C
  fold_clause =
      fold-Clause A C E T P values.arg values.clause values.expr values.target values.pair

  -- the value of an expression
  unfoldable pub fold_expr : Expr → E
  fold_expr =
      fold-Expr A C E T P values.arg values.clause values.expr values.target values.pair

  -- the value of a target
  unfoldable pub fold_target : Target → T
  fold_target =
      fold-Target A C E T P values.arg values.clause values.expr values.target values.pair

  -- the value of a dictionary's entry
  unfoldable pub fold_pair : ExprPair → P
  fold_pair =
      fold-ExprPair A C E T P values.arg values.clause values.expr values.target values.pair

-- the value of a statement by what it says, and of what it says by that of its parts
pub record StmtValues (K S : Type 0) : Type 0 where
  pub kind : StmtKind-F K S → K
  pub stmt : Stmt-F K S → S

module _ {K S : Type 0} (values : StmtValues K S) where
  -- the value of what a statement says
  unfoldable pub fold_kind : StmtKind → K
  fold_kind = fold-StmtKind K S values.kind values.stmt

  -- the value of a statement
  unfoldable pub fold_stmt : Stmt → S
  fold_stmt = fold-Stmt K S values.kind values.stmt
