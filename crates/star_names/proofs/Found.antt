-- A name looked for in scopes, from the innermost on.
use Rattle.std.proofs.Common.{◌≡◌, ℕ, ◌+◌, List, [], ◌∷◌, ◌++◌, Option, Some, None, refl, ap, arith}
use Rattle.std.proofs.lemmas.List.{reverse-append}
use Rattle.std.specs.Prelude.{reverse}
use Rattle.star_trees.specs.Variables.{Names, scope_and_slot, here_or_further, further, slot_of}

pub further-zero : (answer : Option (ℕ × ℕ)) → further 0 answer ≡ answer
further-zero None = refl
further-zero (Some (scope, slot)) = ap (λ n. Some (n, slot)) (omega arith)

pub further-further : (one other : ℕ) (answer : Option (ℕ × ℕ))
    → further one (further other answer) ≡ further (other + one) answer
further-further one other None = refl
further-further one other (Some (scope, slot)) = ap (λ n. Some (n, slot)) (omega arith)

pub scope_and_slot-last : (outer : List Names) (names : Names) (name : List ℕ)
    → scope_and_slot (reverse (outer ++ names ∷ [])) name
    ≡ here_or_further (slot_of names name) (scope_and_slot (reverse outer) name)
scope_and_slot-last outer names name = ap (λ scopes. scope_and_slot scopes name)
    (reverse-append outer (names ∷ []))
