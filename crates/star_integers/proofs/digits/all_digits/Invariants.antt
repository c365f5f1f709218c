use Rattle.std.proofs.Common.{◌≡◌, drop}
use Rattle.star_integers.specs.Spellings.{all_digits}
use Rattle.star_integers.proofs.digits.all_digits.Given as goal

abbrev pub invariant-looking : goal.invariant-looking
invariant-looking l =
    all_digits l.base (drop l.c-index l.digits) ≡ all_digits l.base l.digits
