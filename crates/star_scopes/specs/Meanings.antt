-- What a tree means where names are concerned, beside what it is at another place: which names it
-- binds as a target, which free names it uses, and the tree that is made of it.
use Rattle.std.specs.Prelude.{ℕ, List}
use Rattle.star_trees.specs.declared.files.Param.{Param}
use Rattle.star_trees.specs.declared.trees.Arg.{Arg}
use Rattle.star_trees.specs.declared.trees.Clause.{Clause}
use Rattle.star_trees.specs.declared.trees.Expr.{Expr}
use Rattle.star_trees.specs.declared.trees.ExprPair.{ExprPair}
use Rattle.star_trees.specs.declared.trees.Stmt.{Stmt}
use Rattle.star_trees.specs.declared.trees.StmtKind.{StmtKind}
use Rattle.star_trees.specs.declared.trees.Target.{Target}
use Rattle.star_trees.specs.Variables.{Names, Binding}
use Rattle.star_scopes.specs.declared.dialects.Dialect.{Dialect}
use Rattle.star_scopes.specs.Uses.{Uses}
use Rattle.star_scopes.specs.Making.{Making}

-- with the file's free names, and the scopes that stand round a place, from the innermost on
abbrev pub Made : Type 0 → Type 0
Made A = Names → List Names → Making A

-- an expression, by itself or as a target
pub record ExprMeaning : Type 0 where
  pub bound : Binding
  pub uses : Dialect → List Names → Uses
  pub expr : Made Expr
  pub target : Made Target

pub record PairMeaning : Type 0 where
  pub uses : Dialect → List Names → Uses
  pub pair : Made ExprPair

pub record ArgMeaning : Type 0 where
  pub uses : Dialect → List Names → Uses
  pub arg : Made Arg

pub record ParamMeaning : Type 0 where
  pub bound : Binding
  pub uses : Dialect → List Names → Uses
  pub param : Made Param

-- a clause of a comprehension: what is bound stands in the scopes that come first, the operand of
-- `in` in those that come second
pub record ClauseMeaning : Type 0 where
  pub bound : Binding
  pub uses : Dialect → List Names → List Names → Uses
  pub clause : Names → List Names → List Names → Making Clause

pub record StmtMeaning : Type 0 where
  pub bound : Binding
  pub uses : Dialect → List Names → Uses
  pub stmt : Made Stmt

-- what a statement says, on a line
pub record KindMeaning : Type 0 where
  pub bound : Binding
  pub uses : Dialect → List Names → Uses
  pub kind : ℕ → Made StmtKind
