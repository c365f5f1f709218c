use Rattle.std.proofs.Common.{◌≡◌, drop, map}
use Rattle.star_trees.specs.Lists.{all_of, some_and_all}
use Rattle.star_grammar.specs.Orders.{is_target}
use Rattle.star_expressions.proofs.targets.+targets.Given as goal

abbrev pub invariant-are_targets-targets : goal.invariant-are_targets-targets
invariant-are_targets-targets l =
    some_and_all (map is_target l.targets) ≡ all_of (map is_target (drop l.target-index l.targets))
