-- What holds of all items of a list, at each.
use Rattle.std.proofs.Common.{◌≡◌, ℕ, zero, suc, ◌≤◌, ◌<◌, true, List, [], ◌∷◌, length, map, get_or}
use Rattle.std.proofs.Common.{arith}
use Rattle.std.proofs.lemmas.Bool.{and_parts}
use Rattle.star_trees.specs.Indexes.{greatest}
use Rattle.star_trees.specs.Counted.{Tally, all_counted}
use Rattle.star_trees.specs.Variables.{Names}

pub greatest-at : {A : Type 0} (f : A → ℕ) (xs : List A) (i : ℕ) (d : A)
    → i < length xs
    → f (get_or xs i d) ≤ greatest (map f xs)
greatest-at f [] i d below = absurd (omega (arith, below))
greatest-at f (x ∷ xs) zero d below = omega arith
greatest-at f (x ∷ xs) (suc i) d below = let more = greatest-at f xs i d
    (omega (arith, below)) in omega (arith, more)

pub all_counted-at : {A : Type 0} (tally : A → Tally) (scopes : List Names) (xs : List A) (i : ℕ)
    (d : A)
    → i < length xs
    → all_counted (map tally xs) scopes ≡ true
    → (tally (get_or xs i d)).counted scopes ≡ true
all_counted-at tally scopes [] i d below all = absurd (omega (arith, below))
all_counted-at tally scopes (x ∷ xs) zero d below all = (and_parts _ _ all).0
all_counted-at tally scopes (x ∷ xs) (suc i) d below all = all_counted-at tally scopes xs i d
    (omega (arith, below)) (and_parts _ _ all).1
