use Rattle.std.proofs.Common.{◌≡◌, drop}
use Rattle.star_functions.specs.Sequences.{all_items}
use Rattle.star_functions.proofs.ListRows.{in_front}
use Rattle.star_functions.proofs.tuples.all_items.Given as goal

-- the lists so far, in front of those that are left, are all
abbrev pub invariant-reading : goal.invariant-reading
invariant-reading l =
    in_front l.lists.items (all_items l.heap (drop l.value-index l.values))
    ≡ all_items l.heap l.values
