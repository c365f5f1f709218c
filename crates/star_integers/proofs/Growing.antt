-- Numbers grow digit by digit, so that one that is too large so far stays so.
use Rattle.std.proofs.Common.{◌≡◌, ℕ, ◌+◌, ◌*◌, ◌<◌, ◌≤◌, List, [], ◌∷◌, drop, arith, subst, sym}
use Rattle.std.proofs.Math.Nat.{le-mul_of_pos_right}
use Rattle.std.specs.Char.{digit_value}
use Rattle.star_integers.specs.Spellings.{number_behind}

grows : (base number : ℕ) (digits : List ℕ) → 0 < base → number ≤ number_behind base number digits
grows base number [] above = omega arith
grows base number (c ∷ digits) above =
    let step : number ≤ number * base = le-mul_of_pos_right number above in
    let more = grows base (number * base + digit_value c) digits above in
    omega (arith, step, more)

-- a number that is large so far is large
pub large : (base number c index : ℕ) (digits : List ℕ) (most : ℕ)
    → 0 < base
    → drop index digits ≡ c ∷ drop (index + 1) digits
    → most ≤ number * base + digit_value c
    → most ≤ number_behind base number (drop index digits)
large base number c index digits most above next is =
    subst (λ left. most ≤ number_behind base number left) (sym next)
    (let more = grows base (number * base + digit_value c) (drop (index + 1) digits) above in
    omega (arith, is, more))
