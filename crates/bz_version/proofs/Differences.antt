-- The precedence answers `Less` exactly where the first difference puts a version below another.
use Rattle.std.proofs.Common.{◌≡◌, ℕ, ◌<◌, ◌⊎◌, ◌↔◌, List, [], ◌∷◌, ◌++◌, refl, sym, ap, inl, inr}
use Rattle.std.proofs.lemmas.Bool.{cases_Bool, lt-ltb}
use Rattle.std.proofs.lemmas.Cmp.{nat_cmp_total, ranked, tied_itself}
use Rattle.std.specs.Cmp.Lexicographic.{slice_cmp}
use Rattle.std.specs.FinMap.{nat_cmp-IsAntisymmetric}
use Rattle.std.specs.Ordering.{nat_cmp, ordering_then}
use Rattle.std.specs.declared.cmp.Ordering.{Ordering}
use Rattle.std.specs.declared.cmp.Ordering.TheVariants.{Less, Equal, Greater}
use Rattle.bz_version.proofs.Orders.{identifier_same, identifier_total, part_same, part_total}
use Rattle.bz_version.specs.Below.{DiffersBelow, EndsOrLower, IsBelow, IsIdentifierBelow}
use Rattle.bz_version.specs.Below.{IsNumberBelow, IsPartBelow}
use Rattle.bz_version.specs.Grammar.{Parts}
use Rattle.bz_version.specs.Digits.{is_numeric, number_of}
use Rattle.bz_version.specs.Precedence.{identifier_order, numeric_order, part_order, parts_of}
use Rattle.bz_version.specs.Precedence.{precedence, version_order}

-- an order that answers `Less` exactly where `Lower` holds, and `Equal` of one value alone
record Ranks {X : Type 0} (R : X → X → Ordering) (Lower : X → X → Type 0) : Type 0 where
  less : (x y : X) → R x y ≡ Less → Lower x y
  lower : (x y : X) → Lower x y → R x y ≡ Less
  same : (x y : X) → R x y ≡ Equal → x ≡ y
  itself : (x : X) → R x x ≡ Equal

lists_less : {X : Type 0} {R : X → X → Ordering} {Lower : X → X → Type 0}
    → Ranks R Lower
    → (xs ys : List X)
    → slice_cmp R xs ys ≡ Less
    → DiffersBelow Lower xs ys
lists_less k [] [] e = absurd (cc e)
lists_less k [] (y ∷ ys) e = record {
  common = [];
  rest = [];
  other_rest = y ∷ ys;
  first = refl;
  second = refl;
  below = tt;
}
lists_less k (x ∷ xs) [] e = absurd (cc e)
lists_less {X} {R} {Lower} k (x ∷ xs) (y ∷ ys) e =
    (elim (R x y) as (λ (o : Ordering). R x y ≡ o → ordering_then o (slice_cmp R xs ys) ≡ Less →
    DiffersBelow Lower (x ∷ xs) (y ∷ ys)) [
      | Less ↦ λ r e. record {
        common = [];
        rest = x ∷ xs;
        other_rest = y ∷ ys;
        first = refl;
        second = refl;
        below =
            k.less x y r;
      }
      | Equal ↦ λ r e. let d = lists_less k xs ys e in
          record {
            common = y ∷ d.common;
            rest = d.rest;
            other_rest = d.other_rest;
            first = λ i.
                k.same x y r i ∷ d.first i;
            second = ap
                (λ (l : List X). y ∷ l) d.second;
            below = d.below;
          }
      | Greater ↦ λ r e. absurd (cc e)
    ]) refl e

ends_or_lower : {X : Type 0} {R : X → X → Ordering} {Lower : X → X → Type 0}
    → Ranks R Lower
    → (xs ys : List X)
    → EndsOrLower Lower xs ys
    → slice_cmp R xs ys ≡ Less
ends_or_lower k [] [] b = absurd b
ends_or_lower k [] (y ∷ ys) b = refl
ends_or_lower k (x ∷ xs) [] b = absurd b
ends_or_lower k (x ∷ xs) (y ∷ ys) b = rw (k.lower x y b) refl

behind_common : {X : Type 0} {R : X → X → Ordering} {Lower : X → X → Type 0}
    → Ranks R Lower
    → (common xs ys : List X)
    → EndsOrLower Lower xs ys
    → slice_cmp R (common ++ xs) (common ++ ys) ≡ Less
behind_common k [] xs ys b = ends_or_lower k xs ys b
behind_common k (x ∷ common) xs ys b = rw (k.itself x) (behind_common k common xs ys b)

lists_lower : {X : Type 0} {R : X → X → Ordering} {Lower : X → X → Type 0}
    → Ranks R Lower
    → (xs ys : List X)
    → DiffersBelow Lower xs ys
    → slice_cmp R xs ys ≡ Less
lists_lower k xs ys d = rw (d.first, d.second)
    (behind_common k d.common d.rest d.other_rest d.below)

then_less : (r s : Ordering) → ordering_then r s ≡ Less → (r ≡ Less) ⊎ ((r ≡ Equal) × (s ≡ Less))
then_less Less s e = inl refl
then_less Equal s e = inr (refl, e)
then_less Greater s e = absurd (cc e)

nat_less : (m n : ℕ) → nat_cmp m n ≡ Less → m < n
nat_less m n e = ranked m n Less (sym e)

nat_lower : (m n : ℕ) → m < n → nat_cmp m n ≡ Less
nat_lower m n h = rw (lt-ltb m n h) refl

bytes_rank : Ranks nat_cmp (λ b c. b < c)
bytes_rank = record {
  less = nat_less;
  lower = nat_lower;
  same = nat_cmp-IsAntisymmetric;
  itself =
      tied_itself nat_cmp_total;
}

number_less : (first second : List ℕ)
    → numeric_order first second ≡ Less
    → IsNumberBelow first second
number_less first second e = elim (then_less _ _ e) [
  | inl smaller ↦ inl (nat_less _ _ smaller)
  | inr tie ↦ inr (nat_cmp-IsAntisymmetric _ _ tie.0, lists_less bytes_rank first second tie.1)
]

number_lower : (first second : List ℕ)
    → IsNumberBelow first second
    → numeric_order first second ≡ Less
number_lower first second (inl smaller) = rw (nat_lower _ _ smaller) refl
number_lower first second (inr tie) = rw (tie.0, tied_itself nat_cmp_total (number_of second))
    (lists_lower bytes_rank first second tie.1)

identifier_less : (first second : List ℕ)
    → identifier_order first second ≡ Less
    → IsIdentifierBelow first second
identifier_less first second e = elim (cases_Bool (is_numeric first)) [
  | inl digits ↦ elim (cases_Bool (is_numeric second)) [
    | inl others ↦ rw (digits, others) (number_less first second (rw (digits, others) at e))
    | inr others ↦ rw (digits, others) tt
  ]
  | inr digits ↦ elim (cases_Bool (is_numeric second)) [
    | inl others ↦ absurd (cc (rw (digits, others) at e))
    | inr others ↦ rw (digits, others)
        (lists_less bytes_rank first second (rw (digits, others) at e))
  ]
]

identifier_lower : (first second : List ℕ)
    → IsIdentifierBelow first second
    → identifier_order first second ≡ Less
identifier_lower first second b = elim (cases_Bool (is_numeric first)) [
  | inl digits ↦ elim (cases_Bool (is_numeric second)) [
    | inl others ↦ rw (digits, others) (number_lower first second (rw (digits, others) at b))
    | inr others ↦ rw (digits, others) refl
  ]
  | inr digits ↦ elim (cases_Bool (is_numeric second)) [
    | inl others ↦ absurd (rw (digits, others) at b)
    | inr others ↦ rw (digits, others)
        (lists_lower bytes_rank first second (rw (digits, others) at b))
  ]
]

identifiers_rank : Ranks identifier_order IsIdentifierBelow
identifiers_rank = record {
  less = identifier_less;
  lower = identifier_lower;
  same = identifier_same;
  itself = tied_itself
      identifier_total;
}

part_less : (xs ys : List (List ℕ)) → part_order xs ys ≡ Less → IsPartBelow xs ys
part_less [] [] e = cc e
part_less [] (y ∷ ys) e = cc e
part_less (x ∷ xs) [] e = tt
part_less (x ∷ xs) (y ∷ ys) e = lists_less identifiers_rank (x ∷ xs) (y ∷ ys) e

part_lower : (xs ys : List (List ℕ)) → IsPartBelow xs ys → part_order xs ys ≡ Less
part_lower [] ys b = absurd b
part_lower (x ∷ xs) [] b = refl
part_lower (x ∷ xs) (y ∷ ys) b = lists_lower identifiers_rank (x ∷ xs) (y ∷ ys) b

version_less : (first second : Parts) → version_order first second ≡ Less → IsBelow first second
version_less first second e = elim (then_less _ _ e) [
  | inl release ↦ inl (part_less _ _ release)
  | inr tie ↦ inr (part_same _ _ tie.0, part_less _ _ tie.1)
]

version_lower : (first second : Parts) → IsBelow first second → version_order first second ≡ Less
version_lower first second (inl release) = rw (part_lower first.release second.release release) refl
version_lower first second (inr tie) = rw (tie.0, tied_itself part_total second.release)
    (part_lower first.prerelease second.prerelease tie.1)

pub below_at_first_difference : (first second : List ℕ)
    → (precedence first second ≡ Less) ↔ IsBelow (parts_of first) (parts_of second)
unfolding precedence
below_at_first_difference first second = (
  version_less (parts_of first) (parts_of second),
  version_lower (parts_of first)
      (parts_of second),
)
