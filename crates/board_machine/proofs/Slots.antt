-- Lists that are changed item by item.
use Rattle.std.proofs.Common.{◌≡◌, ℕ, zero, suc, ◌+◌, ◌<◌, ◌==◌, Bool, true, false, List, [], ◌∷◌}
use Rattle.std.proofs.Common.{◌++◌, length, refl, ap, sym, ◌∙◌, subst, arith, if◌then◌else◌, Option}
use Rattle.std.proofs.Common.{None, Some, option_map, slice_get, slice_set, ◌⊎◌, inl, inr}
use Rattle.std.proofs.lemmas.Bool.Decides.{nat_tests}
use Rattle.std.specs.List.{position_or_len}
use Rattle.board_machine.specs.Boards.{map_places}

pub get-each : {X : Type 0} (f : ℕ → X → X) (from : ℕ) (xs : List X) (at : ℕ)
    → slice_get (map_places f from xs) at ≡ option_map (f (from + at)) (slice_get xs at)
get-each f from [] at = refl
get-each f from (x ∷ xs) zero = ap (λ k. Some (f k x)) (omega arith)
get-each f from (x ∷ xs) (suc at) =
    let same : suc from + at ≡ from + suc at = omega arith in
    get-each f (suc from) xs at ∙ ap (λ k. option_map (f k) (slice_get xs at)) same

pub length-each : {X : Type 0} (f : ℕ → X → X) (from : ℕ) (xs : List X)
    → length (map_places f from xs) ≡ length xs
length-each f from [] = refl
length-each f from (x ∷ xs) = ap suc (length-each f (suc from) xs)

-- what stands after a change stood there before it
pub map_places-stood : {X : Type 0} (f : ℕ → X → X) (xs : List X) (at : ℕ) (y : X)
    → slice_get (map_places f 0 xs) at ≡ Some y
    → (x : X) × (slice_get xs at ≡ Some x) × (y ≡ f at x)
map_places-stood {X} f xs at y h = go (slice_get xs at) refl
  where
    all : option_map (f at) (slice_get xs at) ≡ Some y
    all = ap (λ k. option_map (f k) (slice_get xs at)) (omega arith) ∙ sym (get-each f 0 xs at) ∙ h

    go : (o : Option X) → slice_get xs at ≡ o → (x : X) × (slice_get xs at ≡ Some x) × (y ≡ f at x)
    go None e = let whole = all in let none : option_map (f at) (slice_get xs at) ≡ None =
        ap (option_map (f at)) e in absurd (cc)
    go (Some x) e = let whole = all in
        let some : option_map (f at) (slice_get xs at) ≡ Some (f at x) = ap (option_map (f at)) e in
        let same : y ≡ f at x = cc in (x, e, same)

-- and what stood there stands there changed
pub map_places-stands : {X : Type 0} (f : ℕ → X → X) (xs : List X) (at : ℕ) (x : X)
    → slice_get xs at ≡ Some x → slice_get (map_places f 0 xs) at ≡ Some (f at x)
map_places-stands f xs at x h =
    get-each f 0 xs at ∙ ap (option_map (f (0 + at))) h ∙ ap (λ k. Some (f k x)) (omega arith)

-- a list with one more at its end
pub pushed-stood : {X : Type 0} (xs : List X) (x : X) (at : ℕ) (y : X)
    → slice_get (xs ++ x ∷ []) at ≡ Some y
    → (slice_get xs at ≡ Some y) ⊎ ((at ≡ length xs) × (y ≡ x))
pushed-stood [] x zero y h = inr (refl, cc)
pushed-stood [] x (suc at) y h = absurd (cc)
pushed-stood (z ∷ xs) x zero y h = inl h
pushed-stood (z ∷ xs) x (suc at) y h = go (pushed-stood xs x at y h)
  where
    go : (slice_get xs at ≡ Some y) ⊎ ((at ≡ length xs) × (y ≡ x))
        → (slice_get xs at ≡ Some y) ⊎ ((suc at ≡ suc (length xs)) × (y ≡ x))
    go (inl e) = inl e
    go (inr e) = inr (ap suc e.0, e.1)

pub pushed-stands : {X : Type 0} (xs : List X) (x : X) (at : ℕ) (y : X) → slice_get xs at ≡ Some y
    → slice_get (xs ++ x ∷ []) at ≡ Some y
pushed-stands [] x at y h = absurd (cc)
pushed-stands (z ∷ xs) x zero y h = h
pushed-stands (z ∷ xs) x (suc at) y h = pushed-stands xs x at y h

pub pushed-last : {X : Type 0} (xs : List X) (x : X) → slice_get (xs ++ x ∷ []) (length xs) ≡ Some x
pushed-last [] x = refl
pushed-last (z ∷ xs) x = pushed-last xs x

-- the first item that passes, or that none does
pub position_found : {X : Type 0} (test : X → Bool) (xs : List X)
    → ((x : X) × (slice_get xs (position_or_len test xs) ≡ Some x) × (test x ≡ true))
    ⊎ ((position_or_len test xs ≡ length xs)
    × ((at : ℕ) (y : X) → slice_get xs at ≡ Some y → test y ≡ false))
position_found test [] = inr (refl, λ at y h. absurd (cc))
position_found {X} test (x ∷ xs) = go (test x) refl (position_found test xs)
  where
    go : (b : Bool) → test x ≡ b
        → ((y : X) × (slice_get xs (position_or_len test xs) ≡ Some y) × (test y ≡ true))
        ⊎ ((position_or_len test xs ≡ length xs)
        × ((at : ℕ) (y : X) → slice_get xs at ≡ Some y → test y ≡ false))
        → ((y : X) × (slice_get (x ∷ xs) (position_or_len test (x ∷ xs)) ≡ Some y)
        × (test y ≡ true))
        ⊎ ((position_or_len test (x ∷ xs) ≡ suc (length xs))
        × ((at : ℕ) (y : X) → slice_get (x ∷ xs) at ≡ Some y → test y ≡ false))
    go true e r = let zero_is : position_or_len test (x ∷ xs) ≡ 0 = rw e refl in
        inl (x, ap (slice_get (x ∷ xs)) zero_is, e)
    go false e (inl r) =
        let next_is : position_or_len test (x ∷ xs) ≡ suc (position_or_len test xs) =
        rw e (omega arith) in
        inl (r.0, ap (slice_get (x ∷ xs)) next_is ∙ r.1, r.2)
    go false e (inr r) =
        let next_is : position_or_len test (x ∷ xs) ≡ suc (position_or_len test xs) =
        rw e (omega arith) in
        inr (next_is ∙ ap suc r.0, none)
      where
        none : (at : ℕ) (y : X) → slice_get (x ∷ xs) at ≡ Some y → test y ≡ false
        none zero y h = let same : x ≡ y = cc in subst (λ z. test z ≡ false) same e
        none (suc at) y h = r.1 at y h

-- a change at one place is a write there
map_places-past : {X : Type 0} (r : X → X) (place from : ℕ) (xs : List X) → place < from
    → map_places (λ at x. if at == place then r x else x) from xs ≡ xs
map_places-past r place from [] h = refl
map_places-past r place from (x ∷ xs) h =
    let off : from == place ≡ false = grind (arith, nat_tests) in
    let rest = map_places-past r place (suc from) xs (omega arith) in
    rw (off, rest) refl

put-at : {X : Type 0} (r : X → X) (xs : List X) (place from goal : ℕ) (x : X) → goal ≡ from + place
    → slice_get xs place ≡ Some x
    → map_places (λ at y. if at == goal then r y else y) from xs ≡ slice_set xs place (r x)
put-at r [] place from goal x e h = absurd (cc)
put-at r (y ∷ xs) zero from goal x e h =
    let on : from == goal ≡ true = grind (arith, nat_tests) in
    let rest = map_places-past r goal (suc from) xs (omega arith) in
    let same : y ≡ x = cc in
    rw (on, rest) (ap (λ z. r z ∷ xs) same)
put-at r (y ∷ xs) (suc place) from goal x e h =
    let off : from == goal ≡ false = grind (arith, nat_tests) in
    let rest = put-at r xs place (suc from) goal x (omega arith) h in
    rw (off, rest) refl

pub put-set : {X : Type 0} (r : X → X) (xs : List X) (place : ℕ) (x : X)
    → slice_get xs place ≡ Some x
    → map_places (λ at y. if at == place then r y else y) 0 xs ≡ slice_set xs place (r x)
put-set r xs place x h = put-at r xs place 0 place x (omega arith) h
