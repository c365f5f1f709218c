use Rattle.std.proofs.Common.{◌≡◌, [], drop}
use Rattle.star_functions.specs.Sequences.{numbered_made}
use Rattle.star_functions.proofs.tuples.make_numbered.Given as goal

abbrev pub invariant-making : goal.invariant-making
invariant-making l =
    numbered_made l.made.items l.number (drop l.item-index l.items) l.heap
    ≡ numbered_made [] l.fn.start l.items l.initial.heap
