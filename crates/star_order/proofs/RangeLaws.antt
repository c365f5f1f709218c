-- Two ranges are equal exactly where their numbers are one list.
use Rattle.std.proofs.Common.{◌≡◌, ℕ, zero, suc, ℤ, ◌+ℤ◌, Bool, true, false, ◌&&◌, [], ◌∷◌}
use Rattle.std.proofs.Common.{ap, arith, if◌then◌else◌, length, nat_eq, refl, sym, ◌∙◌}
use Rattle.std.proofs.lemmas.Bool.Decides.{Decides-eqb, Decides-int_eq, nat_tests}
use Rattle.std.proofs.lemmas.Int.{ints}
use Rattle.std.specs.Bool.{Decides}
use Rattle.std.specs.Ordering.{int_eq}
use Rattle.star_library.specs.Ranges.{range_items, range_length, steps_from}
use Rattle.star_order.specs.Ranges.{same_counted, same_range, same_steps}

both_true : (one other : Bool) → (one && other) ≡ true → (one ≡ true) × (other ≡ true)
both_true true true is = (refl, refl)
both_true true false is = absurd (cc)
both_true false other is = absurd (cc)

if_true : (test rest : Bool)
    → (if test then rest else false) ≡ true
    → (test ≡ true) × (rest ≡ true)
if_true true rest is = (refl, is)
if_true false rest is = absurd (cc)

length-steps : (count : ℕ) (first step : ℤ) → length (steps_from count first step) ≡ count
unfolding steps_from
length-steps zero first step = refl
length-steps (suc count) first step = ap suc (length-steps count (first +ℤ step) step)

-- the tests of more than one number
many_steps : (more : ℕ) (first step other_first other_step : ℤ)
    → same_steps (suc (suc more)) first step other_first other_step
    ≡ (int_eq first other_first && int_eq step other_step)
many_steps more first step other_first other_step =
    let not_none : nat_eq (suc (suc more)) 0 ≡ false = grind (arith, nat_tests) in
    let not_one : nat_eq (suc (suc more)) 1 ≡ false = grind (arith, nat_tests) in
    rw (not_none, not_one) refl

steps_same : (count : ℕ) (first step other_first other_step : ℤ)
    → same_steps count first step other_first other_step ≡ true
    → steps_from count first step ≡ steps_from count other_first other_step
unfolding steps_from
steps_same zero first step other_first other_step is = refl
steps_same (suc zero) first step other_first other_step is =
    ap (λ one. one ∷ []) ((Decides-int_eq first other_first).0 is)
steps_same (suc (suc more)) first step other_first other_step is =
    let parts = both_true (int_eq first other_first) (int_eq step other_step)
    (sym (many_steps more first step other_first other_step) ∙ is) in
    ap (λ one. steps_from (suc (suc more)) one step) ((Decides-int_eq first other_first).0 parts.0)
    ∙ ap (steps_from (suc (suc more)) other_first) ((Decides-int_eq step other_step).0 parts.1)

same_steps_of : (count : ℕ) (first step other_first other_step : ℤ)
    → steps_from count first step ≡ steps_from count other_first other_step
    → same_steps count first step other_first other_step ≡ true
unfolding steps_from
same_steps_of zero first step other_first other_step is = refl
same_steps_of (suc zero) first step other_first other_step is =
    let same : first ≡ other_first = cc in (Decides-int_eq first other_first).1 same
same_steps_of (suc (suc more)) first step other_first other_step is =
    let same : first ≡ other_first = cc in
    let next : first +ℤ step ≡ other_first +ℤ other_step = cc in
    let by : step ≡ other_step = omega (arith, ints) in
    many_steps more first step other_first other_step
    ∙ ap (λ test. test && int_eq step other_step) ((Decides-int_eq first other_first).1 same)
    ∙ (Decides-int_eq step other_step).1 by

counted_same : (count other_count : ℕ) (first step other_first other_step : ℤ)
    → Decides (same_counted count other_count first step other_first other_step)
    (steps_from count first step ≡ steps_from other_count other_first other_step)
counted_same count other_count first step other_first other_step = (
  λ is.
      let parts = if_true (nat_eq count other_count)
      (same_steps count first step other_first other_step) is in
      let same : count ≡ other_count = (Decides-eqb count other_count).0 parts.0 in
      steps_same count first step other_first other_step parts.1
      ∙ ap (λ (one : ℕ). steps_from one other_first other_step) same,
  λ is.
      let same : count ≡ other_count =
      sym (length-steps count first step) ∙ ap length is
      ∙ length-steps other_count other_first other_step in
      ap (λ test. if test then same_steps count first step other_first other_step else false)
      ((Decides-eqb count other_count).1 same)
      ∙ same_steps_of count first step other_first other_step
      (is ∙ ap (λ (one : ℕ). steps_from one other_first other_step) (sym same)),
)

pub ranges_same : (first stop step other_first other_stop other_step : ℤ)
    → Decides (same_range first stop step other_first other_stop other_step)
    (range_items first stop step ≡ range_items other_first other_stop other_step)
unfolding same_range
ranges_same first stop step other_first other_stop other_step =
    counted_same (range_length first stop step) (range_length other_first other_stop other_step)
    first step other_first other_step
