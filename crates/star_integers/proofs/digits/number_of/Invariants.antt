use Rattle.std.proofs.Common.{◌≡◌, drop}
use Rattle.star_integers.specs.Spellings.{number_behind}
use Rattle.star_integers.proofs.digits.number_of.Given as goal

abbrev pub invariant-reading : goal.invariant-reading
invariant-reading l =
    number_behind l.base l.number (drop l.c-index l.digits) ≡ number_behind l.base 0 l.digits
