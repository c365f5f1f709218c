-- Numbers that have 64 bits.
use Rattle.std.proofs.Common.{◌≡◌, ℕ, ◌<◌, ◌≤◌, ◌^◌, ℤ, pos, negsuc, Bool, true, false, Option}
use Rattle.std.proofs.Common.{Some, None}
use Rattle.std.proofs.Common.{Ok, Err, SomeIff, FitsSigned, if◌then◌else◌, ok_or}
use Rattle.std.proofs.Common.{w64, neg_ℤ, ◌-ℤ◌, to_z, of_z, ◌<ℤ◌, ◌≤ℤ◌, refl, ap, arith, sym, ◌∙◌}
use Rattle.std.proofs.lemmas.Int.{ints, to_z-of_z}
use lib.Signed.{mag, mag_shr, shr_z}
use Rattle.std.specs.Int.{IsNonNegative, int_div_euclid, int_rem_euclid, w128}
use Rattle.std.proofs.lemmas.Bool.Decides.{nat_tests}
use Rattle.bz_base.specs.PlainReading.{has_64_bits}
use Rattle.star_core.specs.declared.faults.Fault.TheVariants as fault
use Rattle.star_numbers.specs.Integers.{fitted, floored, left_over}

pub fits_tested : (number : ℤ) → FitsSigned w64 number → has_64_bits number ≡ true
fits_tested (pos n) fits = let h : n < 2 ^ 63 = fits.sfits in grind (arith, nat_tests)
fits_tested (negsuc n) fits = let h : n < 2 ^ 63 = fits.sfits in grind (arith, nat_tests)

pub tested_fits : (number : ℤ) → has_64_bits number ≡ true → FitsSigned w64 number
tested_fits (pos n) is = let h : n < 2 ^ 63 = grind (arith, nat_tests) in record { sfits = h }
tested_fits (negsuc n) is = let h : n < 2 ^ 63 = grind (arith, nat_tests) in record { sfits = h }

-- a result that fits is given
pub fitted_fits : (number : ℤ) → FitsSigned w64 number → fitted number ≡ Ok number
fitted_fits number fits =
    ap (λ test. if test then Ok number else Err fault.Overflow) (fits_tested number fits)

pub fitted_over : (number : ℤ) → (FitsSigned w64 number → ⊥) → fitted number ≡ Err fault.Overflow
fitted_over number over = by (has_64_bits number) refl
  where
    by : (test : Bool)
        → has_64_bits number ≡ test
        → (if test then Ok number else Err fault.Overflow) ≡ Err fault.Overflow
    by true is = absurd (over (tested_fits number is))
    by false is = refl

-- a checked call gives a result exactly where it fits
pub fitted_checked : (result : Option ℤ) (number : ℤ)
    → SomeIff result (FitsSigned w64 number) number
    → ok_or result fault.Overflow ≡ fitted number
fitted_checked (Some given) number is = ap Ok is.1 ∙ sym (fitted_fits number is.0)
fitted_checked None number is = sym (fitted_over number is)

-- division by a positive number, and by a negative one
pub floored_positive : (number divisor : ℤ) → pos 0 ≤ℤ divisor
    → floored number divisor ≡ int_div_euclid number divisor
unfolding floored
floored_positive number (pos divisor) above = refl
floored_positive number (negsuc less) above = absurd (omega (arith, ints))

pub floored_negative : (number divisor : ℤ) → divisor <ℤ pos 0
    → floored number divisor ≡ int_div_euclid (neg_ℤ number) (neg_ℤ divisor)
unfolding floored
floored_negative number (pos divisor) below = absurd (omega (arith, ints))
floored_negative number (negsuc less) below = refl

pub left_over_positive : (number divisor : ℤ) → pos 0 ≤ℤ divisor
    → left_over number divisor ≡ int_rem_euclid number divisor
unfolding left_over
left_over_positive number (pos divisor) above = refl
left_over_positive number (negsuc less) above = absurd (omega (arith, ints))

pub left_over_negative : (number divisor : ℤ) → divisor <ℤ pos 0
    → left_over number divisor ≡ neg_ℤ (int_rem_euclid (neg_ℤ number) (neg_ℤ divisor))
unfolding left_over
left_over_negative number (pos divisor) below = absurd (omega (arith, ints))
left_over_negative number (negsuc less) below = refl

-- a shift to the right is a division by a power of two
pub shr_floored : (number : ℤ) (power : ℕ) → shr_z number power ≡ floored number (pos power)
unfolding floored
shr_floored (pos n) power = refl
shr_floored (negsuc n) power = refl

pub shr_fits : (number : ℤ) (power : ℕ)
    → FitsSigned w64 number
    → FitsSigned w64 (shr_z number power)
shr_fits number power fits =
    let less : mag (shr_z number power) ≤ mag number = mag_shr number power in
    let within : mag number < 2 ^ 63 = fits.sfits in
    record { sfits = omega arith }

-- a number of 128 bits that isn't negative, with its sign turned
pub wide_turned : (number : ℤ)
    → FitsSigned w128 number
    → IsNonNegative number
    → to_z w128 (of_z w128 (pos 0 -ℤ to_z w128 (of_z w128 number))) ≡ neg_ℤ number
wide_turned (pos n) fits above =
    let within : n < 2 ^ 127 = fits.sfits in
    rw (to_z-of_z w128 (pos n) fits) (omega (arith, ints))
wide_turned (negsuc n) fits above = absurd above
