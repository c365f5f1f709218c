-- Numbers, digit by digit.
use Rattle.std.proofs.Common.{◌≡◌, ℕ, ◌+◌, ◌-◌, ◌*◌, ◌^◌, ◌<◌, ◌≤◌, List, [], ◌∷◌, length, drop}
use Rattle.std.proofs.Common.{None, arith, slice_get, subst, sym}
use Rattle.std.proofs.lemmas.Option.{slice_get_past}
use Rattle.star_format.specs.Fields.{number_behind}

grows : (number : ℕ) (digits : List ℕ) → number ≤ number_behind number digits
grows number [] = omega arith
grows number (c ∷ digits) =
    let more = grows (number * 10 + (c - 48)) digits in omega (arith, more)

-- a number that is large so far is large
pub large : (number c index : ℕ) (digits : List ℕ) (most : ℕ)
    → drop index digits ≡ c ∷ drop (index + 1) digits
    → most ≤ number * 10 + (c - 48)
    → most ≤ number_behind number (drop index digits)
large number c index digits most next is =
    subst (λ left. most ≤ number_behind number left) (sym next)
    (let more = grows (number * 10 + (c - 48)) (drop (index + 1) digits) in omega (arith, is, more))

-- a list has fewer items than 64 bits count
pub far_away : {A : Type 0} (items : List A) (number : ℕ)
    → length items < 2 ^ 64
    → 2 ^ 64 ≤ number
    → slice_get items number ≡ None
far_away items number short far = slice_get_past items number (omega (arith, short, far))
