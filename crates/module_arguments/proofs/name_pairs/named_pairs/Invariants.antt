use Rattle.std.proofs.Common.{◌≡◌, Ok, drop}
use Rattle.module_arguments.specs.NamePairs.{named_after}
use Rattle.module_arguments.proofs.name_pairs.named_pairs.Given as goal

abbrev pub invariant-reading : goal.invariant-reading
invariant-reading l =
    named_after l.heap (Ok l.pairs.items) (drop l.argument-index l.named)
    ≡ named_after l.heap (Ok l.fn.before) l.named
