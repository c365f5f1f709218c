-- Chains of a function from places to places.
use Rattle.std.proofs.Common.{◌≡◌, ◌≢◌, ℕ, zero, suc, ◌<◌, ◌≤◌, ◌==◌, Bool, true, false, List, []}
use Rattle.std.proofs.Common.{◌∷◌, length, refl, ap, sym, subst, arith, if◌then◌else◌, ◌⊎◌, inl}
use Rattle.std.proofs.Common.{inr, Option, None, Some, option_map}
use Rattle.std.proofs.lemmas.Bool.{cases_eq}
use Rattle.std.proofs.lemmas.Bool.Decides.{nat_tests}
use Rattle.board_machine.specs.Boards.{walk, option_then}
use Rattle.board_machine.proofs.Places.{Off, Apart, Below, apart_bound}

-- the places from that one on lead to the goal
pub data Way (next : ℕ → Option ℕ) (goal : ℕ) : ℕ → List ℕ → Type 0 where
  here : {place : ℕ} → place ≡ goal → Way next goal place []
  on : {place other : ℕ} {places : List ℕ} → place ≢ goal → next place ≡ Some other
      → Way next goal other places → Way next goal place (place ∷ places)

module _ (next : ℕ → Option ℕ) (goal : ℕ) where
  -- what the chase finds is such a way
  pub walk_way : (steps place : ℕ) (places : List ℕ) → walk next goal steps place ≡ Some places
      → Way next goal place places
  unfolding walk
  walk_way zero place places e = go (place == goal) refl e
    where
      go : (b : Bool) → (place == goal) ≡ b → (if b then Some [] else None) ≡ Some places
          → Way next goal place places
      go true same e =
          let one : place ≡ goal = grind (arith, nat_tests) in
          let all : [] ≡ places = cc in
          subst (λ x. Way next goal place x) all (Way.here one)
      go false same e = absurd (cc)
  walk_way (suc steps) place places e =
      go (place == goal) refl e (λ other rest c. walk_way steps other rest c)
    where
      onward : (o : Option ℕ) → next place ≡ o → place ≢ goal
          → option_then
          (λ other. option_map (λ places. place ∷ places) (walk next goal steps other)) o ≡ Some
          places
          → ((other : ℕ) (rest : List ℕ) → walk next goal steps other ≡ Some rest
          → Way next goal other rest) → Way next goal place places
      onward None n away e further = absurd (cc)
      onward (Some other) n away e further = rest_of (walk next goal steps other) refl e
        where
          rest_of : (o : Option (List ℕ)) → walk next goal steps other ≡ o
              → option_map (λ places. place ∷ places) o ≡ Some places → Way next goal place places
          rest_of None c e = absurd (cc)
          rest_of (Some rest) c e = let all : place ∷ rest ≡ places = cc in
              subst (λ x. Way next goal place x) all (Way.on away n (further other rest c))

      go : (b : Bool) → (place == goal) ≡ b
          → (if b then Some [] else option_then
          (λ other. option_map (λ places. place ∷ places) (walk next goal steps other))
          (next place)) ≡ Some places
          → ((other : ℕ) (rest : List ℕ) → walk next goal steps other ≡ Some rest
          → Way next goal other rest) → Way next goal place places
      go true same e further =
          let one : place ≡ goal = grind (arith, nat_tests) in
          let all : [] ≡ places = cc in
          subst (λ x. Way next goal place x) all (Way.here one)
      go false same e further = onward (next place) refl (λ one. grind (arith, nat_tests)) e further

  -- within enough steps the chase finds the way
  pub way_chase : {place : ℕ} {places : List ℕ} → Way next goal place places → (steps : ℕ)
      → length places ≤ steps → walk next goal steps place ≡ Some places
  unfolding walk
  way_chase (Way.here {place = place} same) zero h = let on : place == goal ≡ true =
      grind (arith, nat_tests) in rw on refl
  way_chase (Way.here {place = place} same) (suc steps) h = let on : place == goal ≡ true =
      grind (arith, nat_tests) in rw on refl
  way_chase (Way.on away n way) zero h = absurd (omega arith)
  way_chase (Way.on {place = place} {other = other} {places = places} away n way) (suc steps) h =
      let off : place == goal ≡ false = grind (arith, nat_tests) in
      let rest = way_chase way steps (omega arith) in
      rw (off, n, rest) refl

  -- there is one way
  pub way_same : {place : ℕ} {xs ys : List ℕ} → Way next goal place xs → Way next goal place ys
      → xs ≡ ys
  way_same (Way.here e) (Way.here e') = refl
  way_same (Way.here e) (Way.on away n way) = absurd (away e)
  way_same (Way.on away n way) (Way.here e) = absurd (away e)
  way_same (Way.on {place = place} {other = x} away n way)
      (Way.on {other = y} {places = ys} away' n' way') =
      let same : y ≡ x = cc in
      ap (λ zs. place ∷ zs) (way_same way (subst (λ z. Way next goal z ys) same way'))

  -- a place on the way leads on by the rest of it
  way_off : {place : ℕ} {places : List ℕ} (x : ℕ) → Way next goal place places
      → Off x places ⊎ ((rest : List ℕ) × Way next goal x rest × (length rest ≤ length places))
  way_off x (Way.here e) = inl Off.nil
  way_off x (Way.on {place = place} {places = places} away n way) =
      go (cases_eq x place) (way_off x way)
    where
      go : (x ≡ place) ⊎ (x ≡ place → ⊥)
          → Off x places ⊎ ((rest : List ℕ) × Way next goal x rest × (length rest ≤ length places))
          → Off x (place ∷ places)
          ⊎ ((rest : List ℕ) × Way next goal x rest × (length rest ≤ suc (length places)))
      go (inl same) r =
          inr (
            place ∷ places,
            subst (λ z. Way next goal z (place ∷ places)) (sym same) (Way.on away n way),
            omega arith,
          )
      go (inr apart) (inl off) = inl (Off.cons apart off)
      go (inr apart) (inr found) = inr (found.0, found.1, omega arith)

  -- so no place stands on it twice
  pub way_apart : {place : ℕ} {places : List ℕ} → Way next goal place places → Apart places
  way_apart (Way.here e) = Apart.nil
  way_apart (Way.on {place = place} {places = places} away n way) =
      Apart.cons (go (way_off place way)) (way_apart way)
    where
      go : Off place places
          ⊎ ((rest : List ℕ) × Way next goal place rest × (length rest ≤ length places))
          → Off place places
      go (inl off) = off
      go (inr found) = let same = ap length (way_same found.1 (Way.on away n way)) in
          absurd (omega arith)

  pub way_below : (bound : ℕ) → ((x y : ℕ) → next x ≡ Some y → x < bound)
      → {place : ℕ} {places : List ℕ} → Way next goal place places → Below bound places
  way_below bound within (Way.here e) = Below.nil
  way_below bound within (Way.on {place = place} {other = other} away n way) =
      Below.cons (within place other n) (way_below bound within way)

  -- where the chase finds none in so many steps as there are places, there is none
  pub walk_none : (bound : ℕ) → ((x y : ℕ) → next x ≡ Some y → x < bound)
      → {place : ℕ} {places : List ℕ} → walk next goal bound place ≡ None
      → Way next goal place places → ⊥
  walk_none bound within none way =
      let found = way_chase way bound (apart_bound bound _ (way_apart way) (way_below bound within way)) in cc
