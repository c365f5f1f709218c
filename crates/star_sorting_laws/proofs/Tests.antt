-- What has to come before another is an order, since the order of values is one; so lists of pairs
-- are sorted as their laws say.
use Rattle.std.proofs.Common.{◌≡◌, ◌<◌, ◌^◌, ap, arith, subst, sym, Bool, true}
use Rattle.std.proofs.Common.{false, IfOk, List, [], ◌∷◌, filter, length}
use Rattle.std.proofs.Common.{slice_index_or, Result, Ok, Err}
use Rattle.std.proofs.lemmas.List.Kept.{AllPairs-cons}
use Rattle.std.specs.declared.cmp.Ordering.{Ordering}
use Rattle.std.specs.declared.cmp.Ordering.TheVariants.{Less, Equal, Greater}
use Rattle.star_core.specs.Heaps.{HeapState}
use Rattle.star_core.specs.declared.dict.Pair.{Pair}
use Rattle.star_core.specs.declared.faults.Fault.{Fault}
use Rattle.star_core.specs.declared.values.Val.{Val}
use Rattle.star_order.specs.Order.{order}
use Rattle.star_order_laws.proofs.ValueOrders.{within_is_order}
use Rattle.star_order_laws.specs.Orders.{Chained, IsOrder, Turned}
use Rattle.star_sorting.specs.Sorting.{comes_before, first_by, sorted_pairs}
use Rattle.star_sorting.specs.declared.comparing.Direction.{Direction}
use Rattle.star_sorting.specs.declared.comparing.Direction.TheVariants as direction
use Rattle.star_sorting_laws.proofs.Merging.{InOrder, IsAlike, IsOrdering, Sorts, within_sorts}
use Rattle.star_sorting_laws.specs.InOrder.{AreInOrder, IsKept, SortsInOrder, SortsStably, is_tie}
use Rattle.star_trees.specs.Nesting.{deepest}

-- what comes first comes after nothing
first_turned : (way : Direction) (one back : Result Ordering Fault)
    → Turned one back
    → first_by way one ≡ Ok true
    → first_by way back ≡ Ok false
first_turned direction.Ascending (Ok Less) back turned is = ap (first_by direction.Ascending) turned
first_turned direction.Ascending (Ok Equal) back turned is = absurd (cc)
first_turned direction.Ascending (Ok Greater) back turned is = absurd (cc)
first_turned direction.Descending (Ok Greater) back turned is =
    ap (first_by direction.Descending) turned
first_turned direction.Descending (Ok Equal) back turned is = absurd (cc)
first_turned direction.Descending (Ok Less) back turned is = absurd (cc)
first_turned way (Err reason) back turned is = absurd (cc)

-- two that don't come first make a third
first_chained : (way : Direction) (one other whole : Result Ordering Fault)
    → Chained one other whole
    → first_by way one ≡ Ok false
    → first_by way other ≡ Ok false
    → first_by way whole ≡ Ok false
first_chained direction.Ascending (Ok Equal) (Ok Equal) whole chained is other_is =
    ap (first_by direction.Ascending) chained
first_chained direction.Ascending (Ok Equal) (Ok Greater) whole chained is other_is =
    ap (first_by direction.Ascending) chained
first_chained direction.Ascending (Ok Greater) (Ok Equal) whole chained is other_is =
    ap (first_by direction.Ascending) chained
first_chained direction.Ascending (Ok Greater) (Ok Greater) whole chained is other_is =
    ap (first_by direction.Ascending) chained
first_chained direction.Descending (Ok Equal) (Ok Equal) whole chained is other_is =
    ap (first_by direction.Descending) chained
first_chained direction.Descending (Ok Equal) (Ok Less) whole chained is other_is =
    ap (first_by direction.Descending) chained
first_chained direction.Descending (Ok Less) (Ok Equal) whole chained is other_is =
    ap (first_by direction.Descending) chained
first_chained direction.Descending (Ok Less) (Ok Less) whole chained is other_is =
    ap (first_by direction.Descending) chained
first_chained _ _ _ whole chained is other_is = absurd (cc)

-- what comes first comes before what doesn't come before the other
first_ahead : (way : Direction) (one other back whole : Result Ordering Fault)
    → Turned other back
    → Chained one back whole
    → first_by way one ≡ Ok true
    → first_by way other ≡ Ok false
    → first_by way whole ≡ Ok true
first_ahead direction.Ascending (Ok Less) (Ok Equal) back whole turned chained is other_is =
    ap (first_by direction.Ascending) (subst (λ one. Chained (Ok Less) one whole) turned chained)
first_ahead direction.Ascending (Ok Less) (Ok Greater) back whole turned chained is other_is =
    ap (first_by direction.Ascending) (subst (λ one. Chained (Ok Less) one whole) turned chained)
first_ahead direction.Descending (Ok Greater) (Ok Equal) back whole turned chained is other_is =
    ap (first_by direction.Descending)
    (subst (λ one. Chained (Ok Greater) one whole) turned chained)
first_ahead direction.Descending (Ok Greater) (Ok Less) back whole turned chained is other_is =
    ap (first_by direction.Descending)
    (subst (λ one. Chained (Ok Greater) one whole) turned chained)
first_ahead _ _ _ back whole turned chained is other_is = absurd (cc)

-- what doesn't come first, turned round, is kept
kept_turned : (way : Direction) (back kept : Result Ordering Fault)
    → Turned back kept
    → first_by way back ≡ Ok false
    → IsKept way kept
kept_turned direction.Ascending (Ok Less) kept turned is = absurd (cc)
kept_turned direction.Ascending (Ok Equal) kept turned is =
    subst (IsKept direction.Ascending) (sym turned) tt
kept_turned direction.Ascending (Ok Greater) kept turned is =
    subst (IsKept direction.Ascending) (sym turned) tt
kept_turned direction.Descending (Ok Less) kept turned is =
    subst (IsKept direction.Descending) (sym turned) tt
kept_turned direction.Descending (Ok Equal) kept turned is =
    subst (IsKept direction.Descending) (sym turned) tt
kept_turned direction.Descending (Ok Greater) kept turned is = absurd (cc)
kept_turned way (Err reason) kept turned is = absurd (cc)

-- two that tie with one value tie
tied_both : (way : Direction) (one back other whole : Result Ordering Fault)
    → Turned one back
    → Chained back other whole
    → is_tie one ≡ true
    → is_tie other ≡ true
    → first_by way whole ≡ Ok false
tied_both direction.Ascending (Ok Equal) back (Ok Equal) whole turned chained is other_is =
    ap (first_by direction.Ascending)
    (subst (λ one. Chained one (Ok Equal) whole) turned chained)
tied_both direction.Descending (Ok Equal) back (Ok Equal) whole turned chained is other_is =
    ap (first_by direction.Descending)
    (subst (λ one. Chained one (Ok Equal) whole) turned chained)
tied_both _ _ back _ whole turned chained is other_is = absurd (cc)

module _ (heap : HeapState) (way : Direction) where
  is_order : IsOrder (order heap)
  is_order = within_is_order deepest heap

  pub is_ordering : IsOrdering (comes_before heap way)
  unfolding comes_before
  is_ordering = record {
    asymmetric = λ one other comes. first_turned way (order heap one.key other.key)
        (order heap other.key one.key) (is_order.turns one.key other.key) comes;
    goes_on = λ one middle other first second. first_chained way
        (order heap other.key middle.key) (order heap middle.key one.key)
        (order heap other.key one.key) (is_order.goes_on other.key middle.key one.key) second first;
    precedes = λ one middle other first second. first_ahead way (order heap one.key middle.key)
        (order heap other.key middle.key) (order heap middle.key other.key)
        (order heap one.key other.key) (is_order.turns other.key middle.key)
        (is_order.goes_on one.key middle.key other.key) first second;
  }

  pub is_alike : (key : Val)
      → IsAlike (comes_before heap way) (λ pair. is_tie (order heap key pair.key))
  unfolding comes_before
  is_alike key one other is other_is =
      tied_both way (order heap key one.key) (order heap one.key key) (order heap key other.key)
      (order heap one.key other.key) (is_order.turns key one.key)
      (is_order.goes_on one.key key other.key) is other_is

  pub kept_later : (one later : Pair)
      → comes_before heap way later one ≡ Ok false
      → IsKept way (order heap one.key later.key)
  unfolding comes_before
  kept_later one later is =
      kept_turned way (order heap later.key one.key) (order heap one.key later.key)
      (is_order.turns later.key one.key) is

  in_order_pairs : (pairs : List Pair)
      → InOrder (comes_before heap way) pairs
      → AreInOrder heap way pairs
  in_order_pairs [] is = λ i j d below within. absurd (omega arith)
  in_order_pairs (one ∷ more) is =
      AllPairs-cons (λ one later. IsKept way (order heap one.key later.key)) one more
      (λ k d within. kept_later one (slice_index_or more k d) (is.0 k d within))
      (in_order_pairs more is.1)

  pub pairs_sort : (same : Pair → Bool) (pairs : List Pair)
      (alike : IsAlike (comes_before heap way) same)
      → length pairs < 2 ^ 64
      → Sorts (comes_before heap way) is_ordering same alike pairs (sorted_pairs heap way pairs)
  pairs_sort same pairs alike fits =
      within_sorts (comes_before heap way) is_ordering same alike 64 pairs (omega (arith, fits))

ordered_of : (heap : HeapState) (way : Direction) (same : Pair → Bool) (pairs : List Pair)
    (alike : IsAlike (comes_before heap way) same) (result : Result (List Pair) Fault)
    → Sorts (comes_before heap way) (is_ordering heap way) same alike pairs result
    → IfOk result (λ sorted. AreInOrder heap way sorted)
ordered_of heap way same pairs alike (Ok all) is = in_order_pairs heap way all is.0
ordered_of heap way same pairs alike (Err reason) is = tt

stable_of : (heap : HeapState) (way : Direction) (same : Pair → Bool) (pairs : List Pair)
    (alike : IsAlike (comes_before heap way) same) (result : Result (List Pair) Fault)
    → Sorts (comes_before heap way) (is_ordering heap way) same alike pairs result
    → IfOk result (λ sorted. filter same sorted ≡ filter same pairs)
stable_of heap way same pairs alike (Ok all) is = is.1
stable_of heap way same pairs alike (Err reason) is = tt

pub none_alike : (heap : HeapState) (way : Direction)
    → IsAlike (comes_before heap way) (λ pair. false)
none_alike heap way one other is other_is = absurd (cc)

pub pairs_in_order : SortsInOrder
pairs_in_order heap way pairs fits =
    ordered_of heap way (λ pair. false) pairs (none_alike heap way) (sorted_pairs heap way pairs)
    (pairs_sort heap way (λ pair. false) pairs (none_alike heap way) fits)

pub pairs_stable : SortsStably
pairs_stable heap way pairs key fits =
    stable_of heap way (λ pair. is_tie (order heap key pair.key)) pairs (is_alike heap way key)
    (sorted_pairs heap way pairs)
    (pairs_sort heap way (λ pair. is_tie (order heap key pair.key)) pairs (is_alike heap way key)
    fits)
