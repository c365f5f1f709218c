-- Values that are their own keys are sorted as pairs are.
use Rattle.std.proofs.Common.{◌≡◌, ◌∙◌, ◌<◌, ◌^◌, All, AllPairs, Bool, true, false, ap, arith}
use Rattle.std.proofs.Common.{cond, filter, IfOk, List, [], ◌∷◌, length, map, refl, Result, Ok, Err}
use Rattle.std.proofs.Common.{slice_index_or, subst, sym}
use Rattle.std.proofs.lemmas.List.Elements.{All-cons, All-head, All-map, All-nil, All-tail}
use Rattle.std.proofs.lemmas.List.Kept.{AllPairs-cons}
use Rattle.std.proofs.lemmas.List.Sorted.{All-permutation}
use Rattle.std.proofs.lemmas.List.{length-map}
use Rattle.star_calls.specs.Values.{result_then}
use Rattle.star_core.specs.Heaps.{HeapState}
use Rattle.star_core.specs.declared.dict.Pair.{Pair}
use Rattle.star_core.specs.declared.faults.Fault.{Fault}
use Rattle.star_core.specs.declared.values.Val.{Val}
use Rattle.star_order.specs.Order.{order}
use Rattle.star_sorting.specs.Sorting.{comes_before, own_key, sorted_pairs, values_of}
use Rattle.star_sorting.specs.declared.comparing.Direction.{Direction}
use Rattle.star_sorting_laws.proofs.Merging.{InOrder, Sorts}
use Rattle.star_sorting_laws.proofs.Permutations.{Permutes, within_permutes}
use Rattle.star_sorting_laws.proofs.Tests.{is_alike, is_ordering, kept_later, none_alike}
use Rattle.star_sorting_laws.proofs.Tests.{pairs_sort}
use Rattle.star_sorting_laws.specs.InOrder.{IsKept, SortsValuesInOrder, SortsValuesStably, is_tie}

-- a pair is its own key
abbrev pub IsOwn : Pair → Type 0
IsOwn pair = pair.key ≡ pair.value

own_all : (values : List Val) → All IsOwn (map own_key values)
own_all [] = All-nil IsOwn
own_all (value ∷ values) = All-cons IsOwn (own_key value) (map own_key values) refl (own_all values)

module _ (heap : HeapState) (way : Direction) where
  kept_value : (one later : Pair)
      → IsOwn one
      → IsOwn later
      → IsKept way (order heap one.key later.key)
      → IsKept way (order heap one.value later.value)
  kept_value one later own later_own is =
      subst (λ left. IsKept way (order heap left later.value)) own
      (subst (λ right. IsKept way (order heap one.key right)) later_own is)

  values_kept : (pairs : List Pair)
      → All IsOwn pairs
      → InOrder (comes_before heap way) pairs
      → AllPairs (λ one later. IsKept way (order heap one later)) (values_of pairs)
  values_kept [] own is = λ i j d below within. absurd (omega arith)
  values_kept (one ∷ more) own is =
      AllPairs-cons (λ one later. IsKept way (order heap one later)) one.value (values_of more)
      (All-map (λ later. IsKept way (order heap one.value later)) (λ pair. pair.value) more
      (λ k d within. kept_value one (slice_index_or more k d) (All-head IsOwn one more own)
      (All-tail IsOwn one more own k d within)
      (kept_later heap way one (slice_index_or more k d) (is.0 k d within))))
      (values_kept more (All-tail IsOwn one more own) is.1)

  -- of values that are their own keys those that tie with one
  tied_on : (key : Val) (one : Pair) (more : List Pair) (test : Bool)
      → cond test (one.value ∷ values_of more) (values_of more)
      ≡ values_of (cond test (one ∷ more) more)
  tied_on key one more true = refl
  tied_on key one more false = refl

  tied_of : (key : Val) (pairs : List Pair)
      → All IsOwn pairs
      → filter (λ value. is_tie (order heap key value)) (values_of pairs)
      ≡ values_of (filter (λ pair. is_tie (order heap key pair.key)) pairs)
  tied_of key [] own = refl
  tied_of key (one ∷ more) own =
      let rest : filter (λ value. is_tie (order heap key value)) (values_of more)
      ≡ values_of (filter (λ pair. is_tie (order heap key pair.key)) more) =
      tied_of key more (All-tail IsOwn one more own) in
      ap (λ all. cond (is_tie (order heap key one.value)) (one.value ∷ all) all) rest
      ∙ ap (λ value. cond (is_tie (order heap key value))
      (one.value ∷ values_of (filter (λ pair. is_tie (order heap key pair.key)) more))
      (values_of (filter (λ pair. is_tie (order heap key pair.key)) more)))
      (sym (All-head IsOwn one more own))
      ∙ tied_on key one (filter (λ pair. is_tie (order heap key pair.key)) more)
      (is_tie (order heap key one.key))

  module _ (values : List Val) (fits : length values < 2 ^ 64) where
    pairs_fit : length (map own_key values) < 2 ^ 64
    pairs_fit = rw (length-map values own_key) fits

    ordered_values : (result : Result (List Pair) Fault)
        → Permutes (map own_key values) result
        → Sorts (comes_before heap way) (is_ordering heap way) (λ pair. false)
        (none_alike heap way) (map own_key values) result
        → IfOk (result_then result (λ pairs. Ok (values_of pairs)))
        (λ sorted. AllPairs (λ one later. IsKept way (order heap one later)) sorted)
    ordered_values (Ok pairs) same sorts =
        values_kept pairs
        (All-permutation IsOwn (map own_key values) pairs same (own_all values)) sorts.0
    ordered_values (Err reason) same sorts = tt

    stable_values : (key : Val) (result : Result (List Pair) Fault)
        → Permutes (map own_key values) result
        → Sorts (comes_before heap way) (is_ordering heap way)
        (λ pair. is_tie (order heap key pair.key)) (is_alike heap way key) (map own_key values)
        result
        → IfOk (result_then result (λ pairs. Ok (values_of pairs)))
        (λ sorted. filter (λ value. is_tie (order heap key value)) sorted
        ≡ filter (λ value. is_tie (order heap key value)) values)
    stable_values key (Ok pairs) same sorts =
        tied_of key pairs
        (All-permutation IsOwn (map own_key values) pairs same (own_all values))
        ∙ ap (λ all. values_of all) sorts.1
        ∙ sym (tied_of key (map own_key values) (own_all values))
        ∙ ap (filter (λ value. is_tie (order heap key value))) (own_values values)
      where
        own_values : (some : List Val) → values_of (map own_key some) ≡ some
        own_values [] = refl
        own_values (value ∷ more) = ap (λ all. value ∷ all) (own_values more)
    stable_values key (Err reason) same sorts = tt

pub values_in_order : SortsValuesInOrder
values_in_order heap way values fits =
    ordered_values heap way values fits (sorted_pairs heap way (map own_key values))
    (within_permutes 64 (comes_before heap way) (map own_key values))
    (pairs_sort heap way (λ pair. false) (map own_key values) (none_alike heap way)
    (pairs_fit heap way values fits))

pub values_stable : SortsValuesStably
values_stable heap way values one fits =
    stable_values heap way values fits one (sorted_pairs heap way (map own_key values))
    (within_permutes 64 (comes_before heap way) (map own_key values))
    (pairs_sort heap way (λ pair. is_tie (order heap one pair.key)) (map own_key values)
    (is_alike heap way one) (pairs_fit heap way values fits))
