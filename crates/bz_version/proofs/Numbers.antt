-- Digits compare as the numbers that they write.
use Rattle.std.proofs.Common.{◌≡◌, ℕ, ◌<◌, ◌≤◌, ◌+◌, ◌-◌, ◌*◌, ◌==◌, true, false, List, [], ◌∷◌}
use Rattle.std.proofs.Common.{length, refl, sym, ap, ◌∙◌, arith, inl, inr}
use Rattle.std.proofs.lemmas.Bool.{and_parts, cases_Bool, eqb-true, eqb-false, leb-true, lt-ltb}
use Rattle.std.proofs.lemmas.Cmp.{by_ranked, ranked, tied_itself, nat_cmp_total}
use Rattle.std.specs.Char.{is_ascii_digit}
use Rattle.std.specs.List.{fold}
use Rattle.std.specs.Ordering.{nat_cmp, ordering_reverse, ordering_then}
use Rattle.std.specs.Cmp.Lexicographic.{slice_cmp}
use Rattle.std.specs.declared.cmp.Ordering.TheVariants.{Less, Greater}
use Rattle.bz_version.specs.Digits.{is_numeric, number_of, significant}
use Rattle.bz_version.specs.Precedence.{numeric_order}

-- the number that digits write behind a number
abbrev number_behind : ℕ → List ℕ → ℕ
number_behind n digits = fold (λ number digit. number * 10 + (digit - 48)) n digits

digit_bounds : (b : ℕ) → is_ascii_digit b ≡ true → (48 ≤ b) × (b ≤ 57)
digit_bounds b d = let parts = and_parts _ _ d in (leb-true 48 b parts.0, leb-true b 57 parts.1)

number_behind-ge : (n : ℕ) (digits : List ℕ) → n ≤ number_behind n digits
number_behind-ge n [] = omega arith
number_behind-ge n (b ∷ rest) = let more = number_behind-ge (n * 10 + (b - 48)) rest in omega arith

-- behind a smaller number no more digits write a smaller number
number_behind-lt : (m n : ℕ) (xs ys : List ℕ)
    → m < n
    → is_numeric xs ≡ true
    → length xs ≤ length ys
    → number_behind m xs < number_behind n ys
number_behind-lt m n [] ys h d l = let more = number_behind-ge n ys in omega arith
number_behind-lt m n (x ∷ xs) [] h d l = absurd (omega arith)
number_behind-lt m n (x ∷ xs) (y ∷ ys) h d l =
    let parts = and_parts _ _ d in
    let bounds = digit_bounds x parts.0 in
    number_behind-lt (m * 10 + (x - 48)) (n * 10 + (y - 48)) xs ys (omega arith) parts.1
    (omega arith)

nat_cmp-lt : (m n : ℕ) → m < n → nat_cmp m n ≡ Less
nat_cmp-lt m n h = rw (lt-ltb m n h) refl

nat_cmp-gt : (m n : ℕ) → n < m → nat_cmp m n ≡ Greater
nat_cmp-gt m n h = nat_cmp_total.antisymm m n ∙ ap ordering_reverse (nat_cmp-lt n m h)

-- as many digits behind one number compare byte by byte
number_behind-cmp : (n : ℕ) (xs ys : List ℕ)
    → is_numeric xs ≡ true
    → is_numeric ys ≡ true
    → length xs ≡ length ys
    → nat_cmp (number_behind n xs) (number_behind n ys) ≡ slice_cmp nat_cmp xs ys
number_behind-cmp n [] [] d e l = tied_itself nat_cmp_total n
number_behind-cmp n [] (y ∷ ys) d e l = absurd (omega arith)
number_behind-cmp n (x ∷ xs) [] d e l = absurd (omega arith)
number_behind-cmp n (x ∷ xs) (y ∷ ys) d e l =
    let first = and_parts _ _ d in
    let second = and_parts _ _ e in
    let low = digit_bounds x first.0 in
    let high = digit_bounds y second.0 in
    by_ranked _ _ _ (nat_cmp x y) (ranked x y (nat_cmp x y) refl)
    (λ r h. rw r (nat_cmp-lt _ _ (number_behind-lt (n * 10 + (x - 48)) (n * 10 + (y - 48)) xs ys
    (omega arith) first.1 (omega arith))))
    (λ r h. rw (r, h) (number_behind-cmp (n * 10 + (y - 48)) xs ys first.1 second.1 (omega arith)))
    (λ r h. rw r (nat_cmp-gt _ _ (number_behind-lt (n * 10 + (y - 48)) (n * 10 + (x - 48)) ys xs
    (omega arith) second.1 (omega arith))))

-- no zero stands in front
abbrev NoZero : List ℕ → Type 0
NoZero [] = Unit {0}
NoZero (b ∷ rest) = (b == 48) ≡ false

significant-NoZero : (digits : List ℕ) → NoZero (significant digits)
significant-NoZero [] = tt
significant-NoZero (b ∷ rest) = elim (cases_Bool (b == 48)) [
  | inl nought ↦ rw nought (significant-NoZero rest)
  | inr other ↦ rw other other
]

significant-numeric : (digits : List ℕ)
    → is_numeric digits ≡ true
    → is_numeric (significant digits) ≡ true
significant-numeric [] d = refl
significant-numeric (b ∷ rest) d = elim (cases_Bool (b == 48)) [
  | inl nought ↦ rw nought (significant-numeric rest (and_parts _ _ d).1)
  | inr other ↦ rw other d
]

number_of-significant : (digits : List ℕ) → number_of (significant digits) ≡ number_of digits
number_of-significant [] = refl
number_of-significant (b ∷ rest) = elim (cases_Bool (b == 48)) [
  | inl nought ↦ rw (nought, eqb-true b 48 nought) (number_of-significant rest)
  | inr other ↦ rw other refl
]

-- with no zero in front the longer number is the larger
number_of-lt : (xs ys : List ℕ)
    → is_numeric xs ≡ true
    → is_numeric ys ≡ true
    → NoZero ys
    → length xs < length ys
    → number_of xs < number_of ys
number_of-lt xs [] d e z l = absurd (omega arith)
number_of-lt xs (y ∷ ys) d e z l =
    let bounds = digit_bounds y (and_parts _ _ e).0 in
    let other = eqb-false y 48 z in
    number_behind-lt 0 (0 * 10 + (y - 48)) xs ys (omega arith) d (omega arith)

number_of-cmp : (xs ys : List ℕ)
    → is_numeric xs ≡ true
    → is_numeric ys ≡ true
    → NoZero xs
    → NoZero ys
    → ordering_then (nat_cmp (length xs) (length ys)) (slice_cmp nat_cmp xs ys)
    ≡ nat_cmp (number_of xs) (number_of ys)
number_of-cmp xs ys d e z w =
    by_ranked _ _ _ (nat_cmp (length xs) (length ys))
    (ranked (length xs) (length ys) (nat_cmp (length xs) (length ys)) refl)
    (λ r h. rw r (sym (nat_cmp-lt _ _ (number_of-lt xs ys d e w h))))
    (λ r h. rw r (sym (number_behind-cmp 0 xs ys d e h)))
    (λ r h. rw r (sym (nat_cmp-gt _ _ (number_of-lt ys xs e d z h))))

-- without the zeros in front, by length and then by bytes, and else by the bytes of all
pub numeric_order_without_zeros : (first second : List ℕ)
    → is_numeric first ≡ true
    → is_numeric second ≡ true
    → ordering_then (ordering_then (nat_cmp (length (significant first)) (length (significant
    second))) (slice_cmp nat_cmp (significant first) (significant second)))
    (slice_cmp nat_cmp first second) ≡ numeric_order first second
numeric_order_without_zeros first second d e =
    let numbers = number_of-cmp (significant first) (significant second)
    (significant-numeric first d) (significant-numeric second e) (significant-NoZero first)
    (significant-NoZero second) in
    rw (numbers, number_of-significant first, number_of-significant second) refl
