use Rattle.std.proofs.Common.{◌≡◌, ◌+◌, ◌≤◌, length}
use Rattle.std.specs.Option.{IfSome, option_or}
use Rattle.star_scalars.specs.Searches.{last_index}
use Rattle.star_scalars.proofs.Finding.{shifted}
use Rattle.star_scalars.proofs.searches.last_index.Given as goal

abbrev pub invariant-looking : goal.invariant-looking
invariant-looking l =
    (option_or (shifted l.index (last_index l.sub l.rest)) l.last ≡ last_index l.sub l.text)
    × (l.index + length l.rest ≡ length l.text)
    × IfSome l.last (λ at. at + length l.sub ≤ length l.text)

abbrev pub decreases-looking : goal.decreases-looking
decreases-looking l = length l.rest
