use Rattle.std.proofs.Common.{◌≡◌, ℕ, List, length}
use Rattle.star_trees.specs.Lists.{all_different, all_new}
use Rattle.star_grammar.specs.Orders.{param_names}
use Rattle.star_expressions.specs.NameSets.{Holds}
use Rattle.star_expressions.proofs.arg_orders.params_differ.Given as goal

-- the set holds the names so far, and what is left decides
abbrev pub invariant-turns : goal.invariant-turns
invariant-turns l =
    (before : List (List ℕ)) × Holds l.names before
    × (all_different (param_names l.fn.params) ≡ all_new before (param_names l.rest))

abbrev pub decreases-turns : goal.decreases-turns
decreases-turns l = length l.rest
