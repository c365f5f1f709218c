use Rattle.std.proofs.Common.{◌≡◌, [], Ok, drop}
use Rattle.module_arguments.specs.NamePairs.{placed_after}
use Rattle.module_arguments.proofs.name_pairs.placed_pairs.Given as goal

abbrev pub invariant-reading : goal.invariant-reading
invariant-reading l =
    placed_after l.heap (Ok l.pairs.items) (drop l.value-index l.values)
    ≡ placed_after l.heap (Ok []) l.values
