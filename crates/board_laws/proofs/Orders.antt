-- The least of some texts, whichever comes first.
use Rattle.std.proofs.Common.{◌≡◌, ℕ, List, [], ◌∷◌, ◌++◌, refl, ap, sym, ◌∙◌, arith, ◌⊎◌, inl, inr}
use Rattle.std.proofs.lemmas.Bool.Decides.{nat_tests}
use Rattle.board_laws.specs.Rounds.{lesser, least}

pub lesser-same : (xs : List ℕ) → lesser xs xs ≡ xs
lesser-same [] = refl
lesser-same (x ∷ xs) = grind (arith, nat_tests, lesser-same xs)

pub lesser-turned : (xs ys : List ℕ) → lesser xs ys ≡ lesser ys xs
lesser-turned [] [] = refl
lesser-turned [] (y ∷ ys) = refl
lesser-turned (x ∷ xs) [] = refl
lesser-turned (x ∷ xs) (y ∷ ys) = grind (arith, nat_tests, lesser-turned xs ys)

pub lesser-chained : (xs ys zs : List ℕ) → lesser (lesser xs ys) zs ≡ lesser xs (lesser ys zs)
lesser-chained [] ys zs = refl
lesser-chained (x ∷ xs) [] zs = refl
lesser-chained (x ∷ xs) (y ∷ ys) [] = grind (arith, nat_tests)
lesser-chained (x ∷ xs) (y ∷ ys) (z ∷ zs) = grind (arith, nat_tests, lesser-chained xs ys zs)

pub least-last : (text last : List ℕ) (texts : List (List ℕ))
    → least text (texts ++ last ∷ []) ≡ lesser (least text texts) last
least-last text last [] = refl
least-last text last (other ∷ texts) =
    ap (λ t. lesser text t) (least-last other last texts)
    ∙ sym (lesser-chained text (least other texts) last)

-- the first may as well be the last
pub least-turned : (text other : List ℕ) (texts : List (List ℕ))
    → least text (other ∷ texts) ≡ least other (texts ++ text ∷ [])
least-turned text other texts =
    lesser-turned text (least other texts) ∙ sym (least-last other text texts)

pub lesser-either : (xs ys : List ℕ) → (lesser xs ys ≡ xs) ⊎ (lesser xs ys ≡ ys)
lesser-either [] ys = inl refl
lesser-either (x ∷ xs) [] = inr refl
lesser-either (x ∷ xs) (y ∷ ys) = grind (arith, nat_tests, lesser-either xs ys)
