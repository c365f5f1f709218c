-- Integers of 64 bits.
use Rattle.std.proofs.Common.{◌≡◌, ℤ, pos, negsuc, true, Ok, refl, arith}
use Rattle.std.proofs.lemmas.Int.{ints}
use Rattle.std.specs.Int.{w64}
use Rattle.std.specs.Int.RustNames.{FitsSigned}
use Rattle.bz_base.specs.PlainReading.{has_64_bits}
use Rattle.bz_base.specs.declared.plain_values.Plain as plain
use Rattle.module_values.specs.PlainValues.{integer_plain}

few : (number : ℤ) → FitsSigned w64 number → has_64_bits number ≡ true
few (pos n) fits = grind (arith, ints)
few (negsuc n) fits = grind (arith, ints)

-- an integer that fits stands
pub integer_stands : (number : ℤ)
    → FitsSigned w64 number
    → integer_plain number ≡ Ok (plain.Int number)
integer_stands number fits = rw (few number fits) refl
