-- A variable is set at its slot, or behind the others.
use Rattle.std.proofs.Common.{◌≡◌, ℕ, zero, suc, ◌+◌, ◌<◌, List, [], ◌∷◌, ◌++◌, length, Option}
use Rattle.std.proofs.Common.{Some, None, slice_set, replicate, ap, refl, arith}
use Rattle.star_core.specs.declared.values.Val.{Val}
use Rattle.star_core.specs.Scopes.{with_slot}

pub set_there : (slots : List (Option Val)) (slot : ℕ) (value : Val)
    → slot < length slots
    → slice_set slots slot (Some value) ≡ with_slot slots slot value
set_there [] slot value short = absurd (omega (arith, short))
set_there (first ∷ slots) zero value short = refl
set_there (first ∷ slots) (suc slot) value short =
    ap (λ l. first ∷ l) (set_there slots slot value (omega (arith, short)))

set_behind_none : (count : ℕ) (value : Val)
    → replicate count None ++ Some value ∷ [] ≡ with_slot [] count value
set_behind_none zero value = refl
set_behind_none (suc count) value = ap (λ l. None ∷ l) (set_behind_none count value)

pub set_behind : (slots : List (Option Val)) (count slot : ℕ) (value : Val)
    → slot ≡ length slots + count
    → (slots ++ replicate count None) ++ Some value ∷ [] ≡ with_slot slots slot value
set_behind [] count slot value is =
    let same : slot ≡ count = omega (arith, is) in
    rw same (set_behind_none count value)
set_behind (first ∷ slots) count zero value is = absurd (omega (arith, is))
set_behind (first ∷ slots) count (suc slot) value is =
    ap (λ l. first ∷ l) (set_behind slots count slot value (omega (arith, is)))
