-- What an augmented assignment may be to.
use Rattle.std.proofs.Common.{rules, ◌≡◌, true}
use Rattle.star_trees.specs.Orders.{is_assignable}
use Rattle.star_trees.specs.declared.trees.Expr as e
use Rattle.star_trees.specs.declared.trees.Expr.{Expr, the_lemmas}
use Rattle.star_trees.specs.declared.trees.Var.{Var}

pub is_assignable-Name : (variable : Var) → is_assignable (e.Name variable) ≡ true
unfolding is_assignable
is_assignable-Name variable = search (rules, the_lemmas)

pub is_assignable-Index : (container at : Expr) → is_assignable (e.Index container at) ≡ true
unfolding is_assignable
is_assignable-Index container at = search (rules, the_lemmas)
