use Rattle.std.proofs.Common.{◌≡◌, string_bytes}
use Rattle.star_operators.specs.Binary.{times}
use Rattle.star_operators.proofs.repeating.times_text.Given as goal

abbrev pub invariant-repeating : goal.invariant-repeating
invariant-repeating l = string_bytes l.made ≡ times l.turn l.text
