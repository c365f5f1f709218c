-- Variables that are counted right stand at slots that are there.
use Rattle.std.proofs.Common.{◌≡◌, ℕ, ◌<◌, true, true≢false, eqb, List, [], ◌∷◌, ◌++◌, length}
use Rattle.std.proofs.Common.{get_or, Option, Some, None, IfSome, add-one, arith, refl, subst, sym}
use Rattle.std.proofs.Math.ListN.{get_or-append}
use Rattle.std.proofs.Math.Seq.{get_or-append_seam}
use Rattle.std.proofs.lemmas.Bool.{and_parts, eqb-true}
use Rattle.std.proofs.lemmas.List.Quantifiers.{position-Some}
use Rattle.std.proofs.lemmas.Slice.Eq.{bytes_eq-Decides}
use Rattle.std.specs.Str.{bytes_eq}
use Rattle.star_trees.specs.Counted.{StandsThere, is_slot, is_variable, variable_counted}
use Rattle.star_trees.specs.declared.trees.Var.{Var}
use Rattle.star_trees.specs.Variables.{Names, scope_and_slot, here_or_further, slot_of}

-- a slot of some names has this name
record HasAt (names : Names) (name : List ℕ) (slot : ℕ) : Type 0 where
  pub within : slot < length names
  pub same : get_or names slot [] ≡ name

has-slot : (names : Names) (name : List ℕ) (slot : ℕ)
    → slot_of names name ≡ Some slot
    → HasAt names name slot
has-slot names name slot is =
    let at = position-Some (bytes_eq name) names slot [] is in
    record { within = at.0; same = sym ((bytes_eq-Decides name (get_or names slot [])).0 at.1) }

-- a scope of some has it at a slot
record FoundAt (scopes : List Names) (name : List ℕ) (at : ℕ × ℕ) : Type 0 where
  pub within : at.0 < length scopes
  pub has : HasAt (get_or scopes at.0 []) name at.1

here_or_further-at : (names : Names) (outer : List Names) (name : List ℕ) (here : Option ℕ)
    (outside : Option (ℕ × ℕ))
    → slot_of names name ≡ here
    → IfSome outside (FoundAt outer name)
    → IfSome (here_or_further here outside) (FoundAt (names ∷ outer) name)
here_or_further-at names outer name
    (Some slot) outside is so = record { within = omega arith; has = has-slot names name slot is }
here_or_further-at names outer name None None is so = tt
here_or_further-at names outer name None (Some at) is so =
    let below = so.within in
    record {
      within = omega (arith, below);
      has = subst
          (λ n. HasAt (get_or (names ∷ outer) n []) name at.1) (sym (add-one at.0)) so.has;
    }

scope_and_slot-at : (scopes : List Names) (name : List ℕ)
    → IfSome (scope_and_slot scopes name) (FoundAt scopes name)
scope_and_slot-at [] name = tt
scope_and_slot-at (names ∷ outer) name = here_or_further-at names outer name (slot_of names name)
    (scope_and_slot outer name) refl (scope_and_slot-at outer name)

slot-at : (free : Names) (name : List ℕ) (slot : ℕ) (at : Option ℕ)
    → slot_of free name ≡ at
    → is_slot at slot ≡ true
    → HasAt free name slot
slot-at free name slot (Some one) is so = subst (HasAt free name) (sym (eqb-true slot one so))
    (has-slot free name one is)
slot-at free name slot None is so = absurd (true≢false (sym so))

variable-stands : (free : Names) (scopes : List Names) (variable : Var) (at : Option (ℕ × ℕ))
    → IfSome at (FoundAt scopes variable.name)
    → is_variable free scopes variable at ≡ true
    → StandsThere free scopes variable
variable-stands free scopes variable (Some at) so is =
    let parts = and_parts (eqb variable.scope at.0) (eqb variable.slot at.1) is in
    let has : HasAt (get_or (scopes ++ free ∷ []) variable.scope []) variable.name variable.slot =
    subst (λ slot. HasAt (get_or (scopes ++ free ∷ []) variable.scope []) variable.name slot)
    (sym (eqb-true variable.slot at.1 parts.1))
    (subst (λ scope. HasAt (get_or (scopes ++ free ∷ []) scope []) variable.name at.1)
    (sym (eqb-true variable.scope at.0 parts.0))
    (subst (λ names. HasAt names variable.name at.1)
    (sym (get_or-append scopes (free ∷ []) [] at.0 so.within)) so.has)) in
    record { slot = has.within; name = has.same }
variable-stands free scopes variable None so is =
    let parts = and_parts (eqb variable.scope (length scopes))
    (is_slot (slot_of free variable.name) variable.slot) is in
    let has : HasAt (get_or (scopes ++ free ∷ []) variable.scope []) variable.name variable.slot =
    subst (λ scope. HasAt (get_or (scopes ++ free ∷ []) scope []) variable.name variable.slot)
    (sym (eqb-true variable.scope (length scopes) parts.0))
    (subst (λ names. HasAt names variable.name variable.slot)
    (sym (get_or-append_seam scopes free [] []))
    (slot-at free variable.name variable.slot (slot_of free variable.name) refl parts.1)) in
    record { slot = has.within; name = has.same }

pub counted-stands : (free : Names) (scopes : List Names) (variable : Var)
    → variable_counted free variable scopes ≡ true
    → StandsThere free scopes variable
unfolding variable_counted
counted-stands free scopes variable is = variable-stands free scopes variable
    (scope_and_slot scopes variable.name) (scope_and_slot-at scopes variable.name) is
