use Rattle.std.proofs.Common.{◌≡◌, drop}
use Rattle.star_lex.specs.Integers.{within_last}
use Rattle.star_lex.proofs.integers.number.Given as goal

-- what is left, behind the number so far, gives what the whole gives
abbrev pub invariant-digits : goal.invariant-digits
invariant-digits l = within_last l.base l.value (drop l.byte-index l.digits)
    ≡ within_last l.base 0 l.digits
