-- The value below so many topmost ones.
use Rattle.std.proofs.Common.{◌≡◌, ◌∙◌, ap, refl, sym, arith, ℕ, zero, suc, ◌-◌, ◌<◌, ◌≤◌}
use Rattle.std.proofs.Common.{List, [], ◌∷◌, length, reverse, slice_get, Some, None}
use Rattle.std.proofs.lemmas.List.{get_or-reverse, length-reverse}
use Rattle.std.proofs.lemmas.Option.{slice_get-get_or, slice_get_past}
use Rattle.star_core.specs.Stacks.{taken}
use Rattle.star_core.specs.declared.values.Val.{Val}
use Rattle.star_core.specs.declared.values.Val.TheVariants as val

pub before_in : (values : List Val) (count : ℕ)
    → count < length values
    → slice_get values (length values - 1 - count) ≡ slice_get (reverse values) count
before_in values count within =
    slice_get-get_or values (length values - 1 - count) val.None (omega (arith, within))
    ∙ ap Some (sym (get_or-reverse values count val.None within))
    ∙ sym (slice_get-get_or (reverse values) count val.None
    (rw (length-reverse values) within))

pub before_past : (values : List Val) (count : ℕ)
    → length values ≤ count
    → None ≡ slice_get (reverse values) count
before_past values count past =
    sym (slice_get_past (reverse values) count (rw (length-reverse values) past))

-- a value below so many topmost ones, these, and what is below it
pub record Split (stack acc : List Val) (count : ℕ) (f : Val) : Type 0 where
  pub values : List Val
  pub below : List Val
  pub above : taken count acc stack ≡ Some (values, f ∷ below)

pub split_at : (count : ℕ) (acc stack : List Val) (f : Val)
    → slice_get stack count ≡ Some f
    → Split stack acc count f
unfolding taken
split_at zero acc [] f at = absurd (cc at)
split_at zero acc (x ∷ stack) f at =
    let same : x ≡ f = cc at in
    record {
      values = acc;
      below = stack;
      above = ap (λ y. Some (acc, y ∷ stack)) same;
    }
split_at (suc count) acc [] f at = absurd (cc at)
split_at (suc count) acc (x ∷ stack) f at =
    let inner = split_at count (x ∷ acc) stack f at in
    record {
      values = inner.values;
      below = inner.below;
      above = inner.above;
    }

-- nothing is below so many values where there aren't more
pub data Few (stack acc : List Val) (count : ℕ) : Type 0 where
  fewer : taken count acc stack ≡ None → Few stack acc count
  just : (values : List Val) → taken count acc stack ≡ Some (values, []) → Few stack acc count

pub few_at : (count : ℕ) (acc stack : List Val)
    → slice_get stack count ≡ None
    → Few stack acc count
unfolding taken
few_at zero acc [] at = just acc refl
few_at zero acc (x ∷ stack) at = absurd (cc at)
few_at (suc count) acc [] at = fewer refl
few_at (suc count) acc (x ∷ stack) at = few_at_again (few_at count (x ∷ acc) stack at) where
  few_at_again : Few stack (x ∷ acc) count → Few (x ∷ stack) acc (suc count)
  few_at_again (fewer is) = fewer is
  few_at_again (just values is) = just values is
