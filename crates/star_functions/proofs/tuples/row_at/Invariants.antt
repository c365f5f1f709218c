use Rattle.std.proofs.Common.{◌≡◌, ◌++◌, drop}
use Rattle.star_functions.specs.Sequences.{row_at}
use Rattle.star_functions.proofs.tuples.row_at.Given as goal

abbrev pub invariant-reading : goal.invariant-reading
invariant-reading l =
    l.row.items ++ row_at l.index (drop l.items-index l.lists) ≡ row_at l.index l.lists
