-- A sorted list is a permutation: merging permutes, and so does each layer of halves.
use Rattle.std.proofs.Common.{ℕ, zero, suc, ◌/◌, Bool, true, false, nat_lt, if◌then◌else◌}
use Rattle.std.proofs.Common.{List, [], ◌∷◌, ◌++◌, append_assoc, length, drop, take, subst, sym}
use Rattle.std.proofs.Common.{◌∙◌, IfOk, Result, Ok, Err}
use Rattle.std.specs.List.Sorted.{IsPermutation}
use Rattle.std.proofs.lemmas.List.{take-append-drop}
use Rattle.std.proofs.lemmas.List.Sorted.{IsPermutation-append, IsPermutation-append_comm}
use Rattle.std.proofs.lemmas.List.Sorted.{IsPermutation-append_left, IsPermutation-append_right}
use Rattle.std.proofs.lemmas.List.Sorted.{IsPermutation-refl, IsPermutation-trans}
use Rattle.star_calls.specs.Values.{result_then}
use Rattle.star_core.specs.declared.dict.Pair.{Pair}
use Rattle.star_core.specs.declared.faults.Fault.{Fault}
use Rattle.star_sorting.specs.Sorting.{Test, count_before, halves_sorted, in_front, merged}
use Rattle.star_sorting.specs.Sorting.{sorted_within}

-- the pairs of a result are these, in some order
abbrev pub Permutes : List Pair → Result (List Pair) Fault → Type 0
Permutes pairs result = IfOk result (λ all. IsPermutation pairs all)

-- a part moves to the front, behind which one stands
moved : (one : Pair) (more front back : List Pair)
    → IsPermutation (one ∷ more ++ (front ++ back)) ((front ++ one ∷ []) ++ (more ++ back))
moved one more front back =
    subst (λ left. IsPermutation left ((front ++ one ∷ []) ++ (more ++ back)))
    (append_assoc (one ∷ more) front back)
    (subst (λ right. IsPermutation (((one ∷ more) ++ front) ++ back) right)
    (append_assoc front (one ∷ more) back ∙ sym (append_assoc front (one ∷ []) (more ++ back)))
    (IsPermutation-append_left back ((one ∷ more) ++ front) (front ++ (one ∷ more))
    (IsPermutation-append_comm (one ∷ more) front)))

-- what is merged behind one, where the rest is merged
merged_step : (one : Pair) (more front back : List Pair) (rest : Result (List Pair) Fault)
    → Permutes (more ++ back) rest
    → Permutes (one ∷ more ++ (front ++ back)) (in_front (front ++ one ∷ []) rest)
merged_step one more front back (Ok all) is =
    IsPermutation-trans (one ∷ more ++ (front ++ back)) ((front ++ one ∷ []) ++ (more ++ back))
    ((front ++ one ∷ []) ++ all)
    (moved one more front back)
    (IsPermutation-append_right (front ++ one ∷ []) (more ++ back) all is)
merged_step one more front back (Err reason) is = tt

merged_by : (before : Test) (one : Pair) (more others : List Pair) (count : Result ℕ Fault)
    → ((n : ℕ) → Permutes (more ++ drop n others) (merged before more (drop n others)))
    → Permutes (one ∷ more ++ others) (result_then count
    (λ n. in_front (take n others ++ one ∷ []) (merged before more (drop n others))))
merged_by before one more others (Ok n) rest =
    subst (λ whole. Permutes (one ∷ more ++ whole) (in_front (take n others ++ one ∷ [])
    (merged before more (drop n others))))
    (take-append-drop n others)
    (merged_step one more (take n others) (drop n others) (merged before more (drop n others))
    (rest n))
merged_by before one more others (Err reason) rest = tt

pub merged_permutes : (before : Test) (fronts others : List Pair)
    → Permutes (fronts ++ others) (merged before fronts others)
merged_permutes before [] others = IsPermutation-refl others
merged_permutes before (one ∷ more) others =
    merged_by before one more others (count_before before one others)
    (λ n. merged_permutes before more (drop n others))

-- two lists, which are sorted and merged
both : (before : Test) (front back : List Pair) (fronts backs : Result (List Pair) Fault)
    → Permutes front fronts
    → Permutes back backs
    → Permutes (front ++ back)
    (result_then fronts (λ one. result_then backs (λ other. merged before one other)))
both before front back (Err reason) backs first second = tt
both before front back (Ok one) (Err reason) first second = tt
both before front back (Ok one) (Ok other) first second =
    behind (merged before one other) (merged_permutes before one other)
  where
    behind : (result : Result (List Pair) Fault)
        → Permutes (one ++ other) result
        → Permutes (front ++ back) result
    behind (Ok all) is =
        IsPermutation-trans (front ++ back) (one ++ other) all
        (IsPermutation-append front one back other first second) is
    behind (Err reason) is = tt

layer : (sorted : List Pair → Result (List Pair) Fault) (before : Test) (pairs : List Pair)
    (short : Bool)
    → ((some : List Pair) → Permutes some (sorted some))
    → Permutes pairs (if short then Ok pairs else halves_sorted sorted before pairs)
layer sorted before pairs true each = IsPermutation-refl pairs
layer sorted before pairs false each =
    subst (λ whole. Permutes whole (halves_sorted sorted before pairs))
    (take-append-drop (length pairs / 2) pairs)
    (both before (take (length pairs / 2) pairs) (drop (length pairs / 2) pairs)
    (sorted (take (length pairs / 2) pairs)) (sorted (drop (length pairs / 2) pairs))
    (each (take (length pairs / 2) pairs)) (each (drop (length pairs / 2) pairs)))

pub within_permutes : (depth : ℕ) (before : Test) (pairs : List Pair)
    → Permutes pairs (sorted_within depth before pairs)
unfolding sorted_within
within_permutes zero before pairs = IsPermutation-refl pairs
within_permutes (suc depth) before pairs =
    layer (sorted_within depth before) before pairs (nat_lt (length pairs) 2)
    (within_permutes depth before)
