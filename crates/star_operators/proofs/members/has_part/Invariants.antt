use Rattle.std.proofs.Common.{◌≡◌, length}
use Rattle.star_operators.specs.Members.{has_part}
use Rattle.star_operators.proofs.members.has_part.Given as goal

abbrev pub invariant-looking : goal.invariant-looking
invariant-looking l = has_part l.part l.rest ≡ has_part l.part l.text

abbrev pub decreases-looking : goal.decreases-looking
decreases-looking l = length l.rest
