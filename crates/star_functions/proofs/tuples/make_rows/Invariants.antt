use Rattle.std.proofs.Common.{◌≡◌, ◌≤◌, ◌-◌, []}
use Rattle.star_functions.specs.Sequences.{rows_made}
use Rattle.star_functions.proofs.tuples.make_rows.Given as goal

abbrev pub invariant-making : goal.invariant-making
invariant-making l =
    (rows_made l.made.items (l.count - l.index) l.index l.lists l.heap
    ≡ rows_made [] l.count 0 l.lists l.initial.heap)
    × (l.index ≤ l.count)
