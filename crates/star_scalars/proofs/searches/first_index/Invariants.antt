use Rattle.std.proofs.Common.{◌≡◌, ◌+◌, length}
use Rattle.star_scalars.specs.Searches.{first_index}
use Rattle.star_scalars.proofs.Finding.{shifted}
use Rattle.star_scalars.proofs.searches.first_index.Given as goal

abbrev pub invariant-looking : goal.invariant-looking
invariant-looking l =
    (shifted l.index (first_index l.sub l.rest) ≡ first_index l.sub l.text)
    × (l.index + length l.rest ≡ length l.text)

abbrev pub decreases-looking : goal.decreases-looking
decreases-looking l = length l.rest
