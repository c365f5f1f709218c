-- Different numbers below a bound are no more than the bound.
use Rattle.std.proofs.Common.{◌≡◌, ◌≢◌, ℕ, zero, suc, ◌<◌, ◌≤◌, ◌==◌, Bool, true, false, List, []}
use Rattle.std.proofs.Common.{◌∷◌, length, refl, ap, subst, arith, if◌then◌else◌}
use Rattle.std.proofs.lemmas.Bool.Decides.{nat_tests}

pub data Off (x : ℕ) : List ℕ → Type 0 where
  nil : Off x []
  cons : {y : ℕ} {xs : List ℕ} → x ≢ y → Off x xs → Off x (y ∷ xs)

pub data Apart : List ℕ → Type 0 where
  nil : Apart []
  cons : {x : ℕ} {xs : List ℕ} → Off x xs → Apart xs → Apart (x ∷ xs)

pub data Below (n : ℕ) : List ℕ → Type 0 where
  nil : Below n []
  cons : {x : ℕ} {xs : List ℕ} → x < n → Below n xs → Below n (x ∷ xs)

-- the list without the number
without : ℕ → List ℕ → List ℕ
without n [] = []
without n (x ∷ xs) = if x == n then without n xs else x ∷ without n xs

without-off : (n x : ℕ) (xs : List ℕ) → Off x xs → Off x (without n xs)
unfolding without
without-off n x [] Off.nil = Off.nil
without-off n x (y ∷ xs) (Off.cons apart rest) = go (y == n) (without-off n x xs rest)
  where
    go : (b : Bool) → Off x (without n xs) → Off x (if b then without n xs else y ∷ without n xs)
    go true r = r
    go false r = Off.cons apart r

without-apart : (n : ℕ) (xs : List ℕ) → Apart xs → Apart (without n xs)
unfolding without
without-apart n [] Apart.nil = Apart.nil
without-apart n (y ∷ xs) (Apart.cons off rest) = go (y == n) (without-apart n xs rest)
  where
    go : (b : Bool) → Apart (without n xs) → Apart (if b then without n xs else y ∷ without n xs)
    go true r = r
    go false r = Apart.cons (without-off n y xs off) r

without-below : (n : ℕ) (xs : List ℕ) → Below (suc n) xs → Below n (without n xs)
unfolding without
without-below n [] Below.nil = Below.nil
without-below n (y ∷ xs) (Below.cons less rest) = go (y == n) refl (without-below n xs rest)
  where
    go : (b : Bool) → (y == n) ≡ b → Below n (without n xs)
        → Below n (if b then without n xs else y ∷ without n xs)
    go true e r = r
    go false e r = Below.cons (grind (arith, nat_tests)) r

-- nothing is lost where the number isn't there
without-none : (n : ℕ) (xs : List ℕ) → Off n xs → length (without n xs) ≡ length xs
unfolding without
without-none n [] Off.nil = refl
without-none n (y ∷ xs) (Off.cons apart rest) = go (y == n) refl (without-none n xs rest)
  where
    go : (b : Bool) → (y == n) ≡ b → length (without n xs) ≡ length xs
        → length (if b then without n xs else y ∷ without n xs) ≡ suc (length xs)
    go true e r = absurd (grind (arith, nat_tests))
    go false e r = ap suc r

without-one : (n : ℕ) (xs : List ℕ) → Apart xs → length xs ≤ suc (length (without n xs))
unfolding without
without-one n [] Apart.nil = omega arith
without-one n (y ∷ xs) (Apart.cons off rest) = go (y == n) refl (without-one n xs rest)
  where
    go : (b : Bool) → (y == n) ≡ b → length xs ≤ suc (length (without n xs))
        → suc (length xs) ≤ suc (length (if b then without n xs else y ∷ without n xs))
    go true e r =
        let same : y ≡ n = grind (arith, nat_tests) in
        let none = without-none n xs (subst (λ z. Off z xs) same off) in omega arith
    go false e r = omega arith

pub apart_bound : (n : ℕ) (xs : List ℕ) → Apart xs → Below n xs → length xs ≤ n
apart_bound zero [] apart below = omega arith
apart_bound zero (x ∷ xs) apart (Below.cons less rest) = absurd (omega arith)
apart_bound (suc n) xs apart below =
    let rest = apart_bound n (without n xs) (without-apart n xs apart) (without-below n xs below) in
    let one = without-one n xs apart in omega arith
