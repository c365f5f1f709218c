-- Lists, walked item by item.
use Rattle.std.proofs.Common.{◌≡◌, ℕ, suc, ◌+◌, ◌<◌, List, [], ◌∷◌, ◌++◌, length, get_or, drop, sym}
use Rattle.std.proofs.Common.{◌∙◌, add-one, drop-cons}
use Rattle.std.specs.List.{AllByRecursion}

-- one more item of those that are left
pub drop-next : {A : Type 0} (xs : List A) (i : ℕ) (x : A)
    → i < length xs
    → x ≡ get_or xs i x
    → drop i xs ≡ x ∷ drop (i + 1) xs
drop-next xs i x below is =
    let next : drop i xs ≡ get_or xs i x ∷ drop (suc i) xs = drop-cons xs i x below in
    next ∙ (λ k. sym is k ∷ drop (sym (add-one i) k) xs)

-- what holds of each item of two lists holds of each item of both, one behind the other
pub AllByRecursion-append : {X : Type 0} (P : X → Type 0) (xs ys : List X)
    → AllByRecursion P xs
    → AllByRecursion P ys
    → AllByRecursion P (xs ++ ys)
AllByRecursion-append P [] ys a b = b
AllByRecursion-append P (x ∷ xs) ys a b = (a.0, AllByRecursion-append P xs ys a.1 b)
