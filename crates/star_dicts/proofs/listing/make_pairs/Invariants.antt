use Rattle.std.proofs.Common.{◌≡◌, [], drop}
use Rattle.star_dicts.specs.Rows.{pairs_made}
use Rattle.star_dicts.proofs.listing.make_pairs.Given as goal

abbrev pub invariant-making : goal.invariant-making
invariant-making l =
    pairs_made l.made.items (drop l.pair-index l.pairs) l.heap ≡ pairs_made [] l.pairs l.initial.heap
