-- Operators on integers: the Starlark specification, "Integers" and "Binary operators". An integer
-- has 64 bits, and a result that has none of these is refused.
use Rattle.std.specs.Prelude.{ℕ, suc, ◌^◌, ℤ, pos, negsuc, neg_ℤ, ◌+ℤ◌, ◌-ℤ◌, ◌*ℤ◌, unsigned_abs}
use Rattle.std.specs.Prelude.{int_lt, if◌then◌else◌, Result, Ok, Err}
use Rattle.std.specs.Int.{int_div_euclid, int_rem_euclid, w64}
use Rattle.std.specs.Int as std
use Rattle.std.specs.Ordering.{int_eq}
use Rattle.bz_base.specs.PlainReading.{has_64_bits}
use Rattle.star_core.specs.declared.faults.Fault.{Fault}
use Rattle.star_core.specs.declared.faults.Fault.TheVariants as fault

-- a mathematical result, where it has 64 bits
abbrev pub fitted : ℤ → Result ℤ Fault
fitted number = if has_64_bits number then Ok number else Err fault.Overflow

abbrev pub sum : ℤ → ℤ → Result ℤ Fault
sum left right = fitted (left +ℤ right)

abbrev pub difference : ℤ → ℤ → Result ℤ Fault
difference left right = fitted (left -ℤ right)

abbrev pub product : ℤ → ℤ → Result ℤ Fault
product left right = fitted (left *ℤ right)

abbrev pub negated : ℤ → Result ℤ Fault
negated number = fitted (neg_ℤ number)

-- each bit turned: one less than the number with its sign turned
abbrev pub inverted : ℤ → Result ℤ Fault
inverted number = fitted (negsuc 0 -ℤ number)

-- the greatest number of divisors that isn't more than the number; a quotient by a negative divisor
-- is that of both with their signs turned
unfoldable pub floored : ℤ → ℤ → ℤ
floored number (pos divisor) = int_div_euclid number (pos divisor)
floored number (negsuc less) = int_div_euclid (neg_ℤ number) (pos (suc less))

-- what is left of the number then, which is 0 or has the divisor's sign
unfoldable pub left_over : ℤ → ℤ → ℤ
left_over number (pos divisor) = int_rem_euclid number (pos divisor)
left_over number (negsuc less) = neg_ℤ (int_rem_euclid (neg_ℤ number) (pos (suc less)))

abbrev pub quotient : ℤ → ℤ → Result ℤ Fault
quotient number divisor =
    if int_eq divisor (pos 0) then Err fault.Zero else fitted (floored number divisor)

abbrev pub remainder : ℤ → ℤ → Result ℤ Fault
remainder number divisor =
    if int_eq divisor (pos 0) then Err fault.Zero else fitted (left_over number divisor)

-- the bits of two numbers of 64 bits, in two's complement
abbrev pub bits_of_both : ℤ → ℤ → ℤ
bits_of_both left right = std.int_bit_and w64 left right

abbrev pub bits_of_either : ℤ → ℤ → ℤ
bits_of_either left right = std.int_bit_or w64 left right

abbrev pub bits_of_one : ℤ → ℤ → ℤ
bits_of_one left right = std.int_bit_xor w64 left right

-- a shift: by no negative number, of zero by any, and of another number by less than 64
abbrev pub shifted : (ℕ → ℤ) → ℤ → ℤ → Result ℤ Fault
shifted result number by =
    if int_lt by (pos 0) then Err fault.Value
    else (if int_eq number (pos 0) then Ok (pos 0)
    else (if int_lt by (pos 64) then fitted (result (unsigned_abs by)) else Err fault.Overflow))

-- times a power of two
abbrev pub shifted_left : ℤ → ℤ → Result ℤ Fault
shifted_left number by = shifted (λ count. number *ℤ pos (2 ^ count)) number by

-- divided by a power of two
abbrev pub shifted_right : ℤ → ℤ → Result ℤ Fault
shifted_right number by = shifted (λ count. floored number (pos (2 ^ count))) number by
