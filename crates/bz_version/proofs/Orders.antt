-- The precedence is a total order that tells all texts apart.
use Rattle.std.proofs.Common.{◌≡◌, ◌≢◌, ℕ, if◌then◌else◌, List, [], ◌∷◌, refl, sym, ap, ◌∙◌, inl}
use Rattle.std.proofs.Common.{inr}
use Rattle.std.proofs.lemmas.Bool.{cases_Bool}
use Rattle.std.proofs.lemmas.Cmp.{lists_total, nat_cmp_total, nat_list_cmp_total, on_total}
use Rattle.std.proofs.lemmas.Cmp.{then_total, tied_itself}
use Rattle.std.specs.Cmp.{IsTotalOrder}
use Rattle.std.specs.Cmp.Lexicographic.{slice_cmp}
use Rattle.std.specs.FinMap.{IsAntisymmetric, nat_cmp-IsAntisymmetric, slice_cmp-IsAntisymmetric}
use Rattle.std.specs.Ordering.{nat_cmp, on, ordering_reverse, ordering_then, then_cmp}
use Rattle.std.specs.declared.cmp.Ordering.{Ordering}
use Rattle.std.specs.declared.cmp.Ordering.TheVariants.{Less, Equal, Greater}
use Rattle.bz_version.proofs.Marks.{dots_cut}
use Rattle.bz_version.proofs.Rebuilt.{parts_of-same}
use Rattle.bz_version.specs.Grammar.{Parts}
use Rattle.bz_version.specs.Digits.{is_numeric, number_of}
use Rattle.bz_version.specs.Precedence.{identifier_order, part_order, parts_of, precedence}
use Rattle.bz_version.specs.Precedence.{version_order}
use Rattle.bz_version.specs.Texts.{before}

-- an order that answers as a total order does is total
IsTotalOrder-same : {K : Type 0} {R S : K → K → Ordering}
    → ((x y : K) → S x y ≡ R x y)
    → IsTotalOrder R
    → IsTotalOrder S
IsTotalOrder-same e o = record {
  antisymm = λ x y. e x y ∙ o.antisymm x y ∙ ap ordering_reverse (sym (e y x));
  trans = λ x y z p q. e x z ∙ o.trans x y z (sym (e x y) ∙ p) (sym (e y z) ∙ q);
  congr = λ x y z p. e x z ∙ o.congr x y z (sym (e x y) ∙ p) ∙ sym (e y z);
}

then_first : (r s : Ordering) → ordering_then r s ≡ Equal → r ≡ Equal
then_first Less s e = cc e
then_first Equal s e = refl
then_first Greater s e = cc e

then_second : (r s : Ordering) → ordering_then r s ≡ Equal → s ≡ Equal
then_second Less s e = cc e
then_second Equal s e = e
then_second Greater s e = cc e

-- digits alone have the lower class
abbrev class : List ℕ → ℕ
class x = if is_numeric x then 0 else 1

abbrev number_or_nought : List ℕ → ℕ
number_or_nought x = if is_numeric x then number_of x else 0

abbrev by_class : List ℕ → List ℕ → Ordering
by_class = then_cmp (on class nat_cmp) (then_cmp (on number_or_nought nat_cmp) (slice_cmp nat_cmp))

identifier_order-by_class : (x y : List ℕ) → identifier_order x y ≡ by_class x y
identifier_order-by_class x y = elim (cases_Bool (is_numeric x)) [
  | inl nx ↦ elim (cases_Bool (is_numeric y)) [
    | inl ny ↦ rw (nx, ny) refl
    | inr ny ↦ rw (nx, ny)
        refl
  ]
  | inr nx ↦ elim (cases_Bool (is_numeric y)) [
    | inl ny ↦ rw (nx, ny) refl
    | inr ny ↦ rw (nx, ny)
        refl
  ]
]

pub identifier_total : IsTotalOrder identifier_order
identifier_total = IsTotalOrder-same identifier_order-by_class
    (then_total (on_total class nat_cmp_total)
    (then_total (on_total number_or_nought nat_cmp_total) nat_list_cmp_total))

pub identifier_same : IsAntisymmetric identifier_order
identifier_same x y e =
    slice_cmp-IsAntisymmetric nat_cmp-IsAntisymmetric x y
    (then_second _ _ (then_second _ _ (sym (identifier_order-by_class x y) ∙ e)))

-- no identifiers are above any
abbrev absence : List (List ℕ) → ℕ
absence [] = 1
absence (x ∷ xs) = 0

abbrev by_absence : List (List ℕ) → List (List ℕ) → Ordering
by_absence = then_cmp (on absence nat_cmp) (slice_cmp identifier_order)

part_order-by_absence : (xs ys : List (List ℕ)) → part_order xs ys ≡ by_absence xs ys
part_order-by_absence [] [] = refl
part_order-by_absence [] (y ∷ ys) = refl
part_order-by_absence (x ∷ xs) [] = refl
part_order-by_absence (x ∷ xs) (y ∷ ys) = refl

pub part_total : IsTotalOrder part_order
part_total = IsTotalOrder-same part_order-by_absence
    (then_total (on_total absence nat_cmp_total) (lists_total identifier_total))

pub part_same : IsAntisymmetric part_order
part_same xs ys e = slice_cmp-IsAntisymmetric identifier_same xs ys
    (then_second _ _ (sym (part_order-by_absence xs ys) ∙ e))

version_total : IsTotalOrder version_order
version_total = then_total (on_total (λ (v : Parts). v.release) part_total)
    (on_total (λ (v : Parts). v.prerelease) part_total)

version_same : IsAntisymmetric version_order
version_same v w e =
    let release = part_same v.release w.release (then_first _ _ e) in
    let prerelease = part_same v.prerelease w.prerelease (then_second _ _ e) in
    λ i. record { release = release i; prerelease = prerelease i }

precedence_total : IsTotalOrder precedence
unfolding precedence
precedence_total = on_total parts_of version_total

pub precedence_itself : (text : List ℕ) → precedence text text ≡ Equal
precedence_itself text = tied_itself precedence_total text

pub precedence_same : (first second : List ℕ) → precedence first second ≡ Equal → first ≡ second
unfolding precedence
precedence_same first second e = parts_of-same first second
    (version_same (parts_of first) (parts_of second) e)

pub precedence_turned : (first second : List ℕ)
    → precedence second first ≡ ordering_reverse (precedence first second)
precedence_turned first second = precedence_total.antisymm second first

pub precedence_chained : (first second third : List ℕ)
    → precedence first second ≡ Less
    → precedence second third ≡ Less
    → precedence first third ≡ Less
precedence_chained first second third = precedence_total.trans first second third

pub precedence_empty : (text : List ℕ) → text ≢ [] → precedence text [] ≡ Less
unfolding precedence
precedence_empty [] h = absurd (h refl)
precedence_empty (b ∷ rest) h = rw (dots_cut (before 45 (b ∷ rest))) refl
