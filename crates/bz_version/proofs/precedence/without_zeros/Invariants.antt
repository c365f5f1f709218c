use Rattle.std.proofs.Common.{◌≡◌, length}
use Rattle.bz_version.specs.Digits.{significant}
use Rattle.bz_version.proofs.precedence.without_zeros.Given as goal

abbrev pub invariant-zeros : goal.invariant-zeros
invariant-zeros l = significant l.rest ≡ significant l.digits

abbrev pub decreases-zeros : goal.decreases-zeros
decreases-zeros l = length l.rest
