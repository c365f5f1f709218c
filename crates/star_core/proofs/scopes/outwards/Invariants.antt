use Rattle.std.proofs.Common.{◌≡◌}
use Rattle.star_core.specs.Scopes.{outwards}
use Rattle.star_core.proofs.scopes.outwards.Given as goal

abbrev pub invariant-loop-hop : goal.invariant-loop-hop
invariant-loop-hop l = l.here ≡ outwards l.scopes l.hop l.number
