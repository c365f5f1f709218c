-- Lists in order, and what keeps its place where a list is sorted: the Starlark specification,
-- "sorted".
use Rattle.std.specs.Prelude.{◌≡◌, ◌<◌, ◌^◌, AllPairs, Bool, true, false, IfOk, List, filter}
use Rattle.std.specs.Prelude.{length, Result, Ok, Err, ⊤}
use Rattle.std.specs.declared.cmp.Ordering.{Ordering}
use Rattle.std.specs.declared.cmp.Ordering.TheVariants.{Less, Equal, Greater}
use Rattle.star_core.specs.Heaps.{HeapState}
use Rattle.star_core.specs.declared.dict.Pair.{Pair}
use Rattle.star_core.specs.declared.faults.Fault.{Fault}
use Rattle.star_core.specs.declared.values.Val.{Val}
use Rattle.star_order.specs.Order.{order}
use Rattle.star_sorting.specs.Sorting.{sorted_pairs, sorted_values}
use Rattle.star_sorting.specs.declared.comparing.Direction.{Direction}
use Rattle.star_sorting.specs.declared.comparing.Direction.TheVariants as direction

-- the order of a value and a later one, which aren't out of order: where the least comes first the
-- one isn't greater than the later one, and where the greatest does it isn't less
abbrev pub IsKept : Direction → Result Ordering Fault → Type 0
IsKept direction.Ascending (Ok Less) = ⊤
IsKept direction.Ascending (Ok Equal) = ⊤
IsKept direction.Ascending (Ok Greater) = ⊥
IsKept direction.Descending (Ok Less) = ⊥
IsKept direction.Descending (Ok Equal) = ⊤
IsKept direction.Descending (Ok Greater) = ⊤
IsKept way (Err reason) = ⊥

-- the keys of pairs are in order: that of each pair and that of each later one
abbrev pub AreInOrder : HeapState → Direction → List Pair → Type 0
AreInOrder heap way pairs = AllPairs (λ one later. IsKept way (order heap one.key later.key)) pairs

-- two are neither less nor greater
abbrev pub is_tie : Result Ordering Fault → Bool
is_tie (Ok Less) = false
is_tie (Ok Equal) = true
is_tie (Ok Greater) = false
is_tie (Err reason) = false

-- the pairs whose keys are neither less nor greater than a value, in the order in which they stand
abbrev pub tied : HeapState → Val → List Pair → List Pair
tied heap key pairs = filter (λ pair. is_tie (order heap key pair.key)) pairs

-- a list that was sorted is in order; no list in memory has as many pairs as is said here
abbrev pub SortsInOrder : Type 0
SortsInOrder = (heap : HeapState) (way : Direction) (pairs : List Pair)
    → length pairs < 2 ^ 64
    → IfOk (sorted_pairs heap way pairs) (λ sorted. AreInOrder heap way sorted)

-- pairs whose keys are neither less nor greater keep their order
abbrev pub SortsStably : Type 0
SortsStably = (heap : HeapState) (way : Direction) (pairs : List Pair) (key : Val)
    → length pairs < 2 ^ 64
    → IfOk (sorted_pairs heap way pairs) (λ sorted. tied heap key sorted ≡ tied heap key pairs)

-- values that were sorted are in order
abbrev pub SortsValuesInOrder : Type 0
SortsValuesInOrder = (heap : HeapState) (way : Direction) (values : List Val)
    → length values < 2 ^ 64
    → IfOk (sorted_values heap way values)
    (λ sorted. AllPairs (λ one later. IsKept way (order heap one later)) sorted)

-- the values that are neither less nor greater than one, in the order in which they stand
abbrev pub tied_values : HeapState → Val → List Val → List Val
tied_values heap one values = filter (λ value. is_tie (order heap one value)) values

-- values that are neither less nor greater keep their order
abbrev pub SortsValuesStably : Type 0
SortsValuesStably = (heap : HeapState) (way : Direction) (values : List Val) (one : Val)
    → length values < 2 ^ 64
    → IfOk (sorted_values heap way values)
    (λ sorted. tied_values heap one sorted ≡ tied_values heap one values)
