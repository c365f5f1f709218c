-- Names in byte order.
use Rattle.std.proofs.Common.{◌≡◌, ℕ, suc, zero, ◌+◌, ◌<◌, ◌≤◌, Bool, true, false, not, ◌&&◌, cond}
use Rattle.std.proofs.Common.{List, [], ◌∷◌, ◌++◌, length, map, take, drop, insert, get_or, String}
use Rattle.std.proofs.Common.{string_bytes, refl, ap, sym, subst, ◌∙◌, arith, ◌⊎◌, inl, inr, IsTrue}
use Rattle.std.proofs.Common.{bytes_eq, if◌then◌else◌, add-one}
use Rattle.std.proofs.lemmas.Bool.{and_from, and_parts, cases_Bool, cond-true, cond-false}
use Rattle.std.proofs.lemmas.Bool.{not_from_false, true≢false}
use Rattle.std.proofs.lemmas.Cmp.{nat_list_cmp_total}
use Rattle.std.specs.Cmp.Lexicographic.{slice_cmp}
use Rattle.std.specs.List.{list_any, prefix_len}
use Rattle.std.specs.List.Sorted.{IsSorted}
use Rattle.std.specs.Ordering.{is_lt, nat_cmp, ordering_reverse}
use Rattle.std.specs.String.{string_cmp}
use Rattle.std.specs.declared.alloc.Global.{Global}
use Rattle.std.specs.declared.cmp.Ordering.{Ordering}
use Rattle.std.specs.declared.cmp.Ordering.TheVariants.{Less, Equal, Greater}
use Rattle.bz_tree.specs.Places.{index_of, with_name}
use Rattle.bz_tree.specs.Reads.{are_ascending, is_below}

-- of two names one at most is below the other
below-above : (name other : List ℕ) → is_below name other ≡ true → is_below other name ≡ false
below-above name other below =
    ap is_lt (nat_list_cmp_total.antisymm other name)
    ∙ reversed (slice_cmp nat_cmp name other) below
  where
    reversed : (r : Ordering) → is_lt r ≡ true → is_lt (ordering_reverse r) ≡ false
    reversed Less e = refl
    reversed Equal e = refl
    reversed Greater e = absurd (true≢false (sym e))

-- the names with one more at its index
abbrev Inserted : List ℕ → List (List ℕ) → List (List ℕ)
Inserted name names = insert names (index_of name names) name

inserted-behind : (name x : List ℕ) (xs : List (List ℕ))
    → is_below x name ≡ true
    → Inserted name (x ∷ xs) ≡ x ∷ Inserted name xs
inserted-behind name x xs below =
    let one : 1 + prefix_len (λ other. is_below other name) xs
    ≡ suc (prefix_len (λ other. is_below other name) xs) = omega arith in
    ap (λ n. insert (x ∷ xs) (length (take n (x ∷ xs))) name) (cond-true _ _ _ below ∙ one)

inserted-here : (name x : List ℕ) (xs : List (List ℕ))
    → is_below x name ≡ false
    → Inserted name (x ∷ xs) ≡ name ∷ x ∷ xs
inserted-here name x xs above =
    ap (λ n. insert (x ∷ xs) (length (take n (x ∷ xs))) name) (cond-false _ _ _ above)

-- a name that is not above stands in front
front : (x name : List ℕ) (xs : List (List ℕ))
    → is_below name x ≡ false
    → are_ascending (x ∷ xs) ≡ true
    → are_ascending (Inserted name xs) ≡ true
    → are_ascending (x ∷ Inserted name xs) ≡ true
front x name [] above all more = and_from _ _ (not_from_false _ above) refl
front x name (y ∷ ys) above all more = by (cases_Bool (is_below y name))
  where
    by : ((is_below y name ≡ true) ⊎ (is_below y name ≡ false))
        → are_ascending (x ∷ Inserted name (y ∷ ys)) ≡ true
    by (inl below) =
        let rest : are_ascending (y ∷ Inserted name ys)
        ≡ true = ap are_ascending (sym (inserted-behind name y ys below)) ∙ more in
        ap (λ names. are_ascending (x ∷ names)) (inserted-behind name y ys below)
        ∙ and_from _ _ (and_parts _ _ all).0 rest
    by (inr not_below) =
        let rest : are_ascending (name ∷ y ∷ ys)
        ≡ true = ap are_ascending (sym (inserted-here name y ys not_below)) ∙ more in
        ap (λ names. are_ascending (x ∷ names)) (inserted-here name y ys not_below)
        ∙ and_from _ _ (not_from_false _ above) rest

tail-ascending : (x : List ℕ) (xs : List (List ℕ))
    → are_ascending (x ∷ xs) ≡ true
    → are_ascending xs ≡ true
tail-ascending x [] all = refl
tail-ascending x (y ∷ ys) all = (and_parts _ _ all).1

inserted-ascending : (name : List ℕ) (names : List (List ℕ))
    → are_ascending names ≡ true
    → are_ascending (Inserted name names) ≡ true
inserted-ascending name [] all = refl
inserted-ascending name (x ∷ xs) all = by (cases_Bool (is_below x name))
    (inserted-ascending name xs (tail-ascending x xs all))
  where
    by : ((is_below x name ≡ true) ⊎ (is_below x name ≡ false))
        → are_ascending (Inserted name xs) ≡ true
        → are_ascending (Inserted name (x ∷ xs)) ≡ true
    by (inl below) more =
        ap are_ascending (inserted-behind name x xs below)
        ∙ front x name xs (below-above x name below) all more
    by (inr above) more =
        ap are_ascending (inserted-here name x xs above) ∙ and_from _ _ (not_from_false _ above) all

pub with_name-ascending : (name : List ℕ) (names : List (List ℕ))
    → are_ascending names ≡ true
    → are_ascending (with_name name names) ≡ true
with_name-ascending name names all = by (list_any (λ other. bytes_eq other name) names)
  where
    by : (there : Bool) → are_ascending (if there then names else Inserted name names) ≡ true
    by true = all
    by false = inserted-ascending name names all

-- sorted texts are names in order
pub sorted-ascending : (texts : List (String Global))
    → IsSorted string_cmp texts
    → are_ascending (map string_bytes texts) ≡ true
sorted-ascending [] sorted = refl
sorted-ascending (x ∷ []) sorted = refl
sorted-ascending (x ∷ y ∷ texts) sorted =
    and_from _ _
    (not_from_false _ (sorted 0 x (omega arith) (omega arith)))
    (sorted-ascending (y ∷ texts) (λ k d low high.
    let one : suc k + 1 ≡ suc (k + 1) = omega arith in
    let step = sorted (suc k) d (omega arith) (omega arith) in
    subst (λ n. is_lt (string_cmp (get_or (x ∷ y ∷ texts) n d) (get_or (y ∷ texts) k d)) ≡ false)
    one step))
