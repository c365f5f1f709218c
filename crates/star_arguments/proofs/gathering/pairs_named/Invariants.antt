use Rattle.std.proofs.Common.{◌≡◌, drop}
use Rattle.star_meaning.specs.Arguments.{pairs_named}
use Rattle.star_arguments.proofs.gathering.pairs_named.Given as goal

abbrev pub invariant-naming : goal.invariant-naming
invariant-naming l =
    pairs_named l.heap l.all (drop l.pair-index l.pairs) ≡ pairs_named l.heap l.fn.named l.pairs
