-- A number only grows with further digits.
use Rattle.std.proofs.Common.{◌≡◌, ℕ, zero, suc, ◌<◌, ◌≤◌, ◌+◌, ◌*◌, true, false, cond, List, []}
use Rattle.std.proofs.Common.{◌∷◌, length, Some, None, option_and_then, refl, ap, sym, ◌∙◌, arith}
use Rattle.std.proofs.Common.{ltb, drop, get_or}
use Rattle.std.proofs.lemmas.Bool.{lt-leb, le-leb, lt-ltb, le-ltb}
use Rattle.std.proofs.lemmas.List.{at_drop_more, at_drop_all}
use Rattle.star_lex.specs.Integers.{digit, with_digits, within_last, last_integer, number}
use Rattle.star_lex.specs.Integers.{up_to_last}

product-at_least : (base value : ℕ) → 0 < base → value ≤ value * base
product-at_least zero value p = absurd (omega arith)
product-at_least (suc base) value p = grind arith

-- a number above the last integer stays above it
pub within_last-large : (base value : ℕ) (digits : List ℕ)
    → 0 < base
    → last_integer < value
    → within_last base value digits ≡ None
within_last-large base value [] p h = rw (lt-leb value last_integer h) refl
within_last-large base value (b ∷ digits) p h =
    let next = value * base + digit b in
    let grows : value ≤ value * base = product-at_least base value p in
    let larger : within_last base next digits
    ≡ None = within_last-large base next digits p (omega arith) in
    elim (ltb (digit b) base) as
    (λ v. option_and_then up_to_last (cond v (with_digits base next digits) None) ≡ None) [
      | true ↦ larger
      | false ↦ refl
    ]

pub within_last-step : (base value next i : ℕ) (digits : List ℕ)
    → i < length digits
    → digit (get_or digits i 0) < base
    → next ≡ value * base + digit (get_or digits i 0)
    → within_last base value (drop i digits) ≡ within_last base next (drop (i + 1) digits)
within_last-step base value next i digits within low e =
    let more = drop (i + 1) digits in
    let opened : within_last base value (drop i digits)
    ≡ within_last base value (get_or digits i 0 ∷ more) = at_drop_more
    (within_last base value) digits i 0 within in
    let chosen : within_last base value (get_or digits i 0 ∷ more)
    ≡ within_last base (value * base + digit (get_or digits i 0)) more = rw
    (lt-ltb (digit (get_or digits i 0)) base low) refl in
    opened ∙ (chosen ∙ ap (λ (v : ℕ). within_last base v more) (sym e))

pub within_last-no_digit : (base value i : ℕ) (digits : List ℕ)
    → i < length digits
    → base ≤ digit (get_or digits i 0)
    → within_last base value (drop i digits) ≡ None
within_last-no_digit base value i digits within high =
    let more = drop (i + 1) digits in
    let opened : within_last base value (drop i digits)
    ≡ within_last base value (get_or digits i 0 ∷ more) = at_drop_more
    (within_last base value) digits i 0 within in
    let chosen : within_last base value (get_or digits i 0 ∷ more)
    ≡ None = rw (le-ltb (digit (get_or digits i 0)) base high) refl in
    opened ∙ chosen

pub within_last-over : (base value i : ℕ) (digits : List ℕ)
    → i < length digits
    → 0 < base
    → digit (get_or digits i 0) < base
    → last_integer < value * base + digit (get_or digits i 0)
    → within_last base value (drop i digits) ≡ None
within_last-over base value i digits within some low high =
    within_last-step base value (value * base + digit (get_or digits i 0)) i digits within low refl
    ∙ within_last-large base _ (drop (i + 1) digits) some high

pub within_last-all : (base value i : ℕ) (digits : List ℕ)
    → length digits ≤ i
    → within_last base value (drop i digits) ≡ up_to_last value
within_last-all base value i digits past = at_drop_all (within_last base value) digits i past

pub number-some : (base : ℕ) (digits : List ℕ)
    → (0 < length digits)
    → number base digits ≡ within_last base 0 digits
unfolding number
number-some base [] some = absurd (omega arith)
number-some base (b ∷ digits) some = refl

pub number_none : (base : ℕ) (digits : List ℕ) → length digits ≡ 0 → number base digits ≡ None
unfolding number
number_none base [] e = refl
number_none base (b ∷ digits) e = absurd (omega arith)

pub up_to_last-low : (value : ℕ) → value ≤ last_integer → up_to_last value ≡ Some value
up_to_last-low value low = rw (le-leb value last_integer low) refl

pub up_to_last-high : (value : ℕ) → last_integer < value → up_to_last value ≡ None
up_to_last-high value high = rw (lt-leb value last_integer high) refl
