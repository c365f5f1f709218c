-- Variables, as they are counted again.
use Rattle.std.proofs.Common.{◌≡◌, ℕ, true, eqb, List, length, Option, Some, None, arith, refl}
use Rattle.std.proofs.Common.{subst, sym}
use Rattle.std.proofs.lemmas.Bool.{and_from}
use Rattle.std.proofs.lemmas.Slice.Eq.{bytes_eq-Decides, slice_eq-Decides}
use Rattle.star_conditions.proofs.FreeUses.{FreeThere, has-slot}
use Rattle.star_trees.specs.Counted.{is_slot, is_variable, same_scopes, variable_counted}
use Rattle.star_trees.specs.Variables.{Names, scope_and_slot, slot_of}
use Rattle.star_scopes.specs.Scopes.{slot_or, variable, variable_at}

pub eqb-same : (n : ℕ) → eqb n n ≡ true
eqb-same n = grind arith

pub same_scopes-self : (scopes : List Names) → same_scopes scopes scopes ≡ true
same_scopes-self scopes =
    (slice_eq-Decides (λ a b. slice_eq-Decides bytes_eq-Decides a b _ refl) scopes scopes _ refl).1
    refl

is_slot-own : (at : Option ℕ) (slot other : ℕ)
    → at ≡ Some slot
    → is_slot at (slot_or at other) ≡ true
is_slot-own at slot other is = subst (λ at. is_slot at (slot_or at other) ≡ true) (sym is)
    (eqb-same slot)

counted-at : (free : Names) (scopes : List Names) (name : List ℕ) (at : Option (ℕ × ℕ))
    → scope_and_slot scopes name ≡ at
    → FreeThere free name at
    → is_variable free scopes (variable_at free scopes name at)
    (scope_and_slot scopes (variable_at free scopes name at).name) ≡ true
counted-at free scopes name (Some at) is there = subst
    (λ one. is_variable free scopes (variable_at free scopes name (Some at)) one ≡ true) (sym is)
    (and_from _ _ (eqb-same at.0) (eqb-same at.1))
counted-at free scopes name None is there =
    let has = there.has refl in
    subst (λ one. is_variable free scopes (variable_at free scopes name None) one ≡ true) (sym is)
    (and_from _ _ (eqb-same (length scopes))
    (is_slot-own (slot_of free name) _ (length free) (has-slot free name has)))

pub variable-counted : (free : Names) (scopes : List Names) (name : List ℕ)
    → FreeThere free name (scope_and_slot scopes name)
    → variable_counted free (variable free scopes name) scopes ≡ true
unfolding variable variable_counted
variable-counted free scopes name there = counted-at free scopes name
    (scope_and_slot scopes name) refl there

variable_at-named : (free : Names) (scopes : List Names) (name : List ℕ) (at : Option (ℕ × ℕ))
    → (variable_at free scopes name at).name ≡ name
variable_at-named free scopes name (Some at) = refl
variable_at-named free scopes name None = refl

pub variable-named : (free : Names) (scopes : List Names) (name : List ℕ)
    → (variable free scopes name).name ≡ name
unfolding variable
variable-named free scopes name = variable_at-named free scopes name (scope_and_slot scopes name)
