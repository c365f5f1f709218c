-- Sequences that functions make: the Starlark specification, "range", "enumerate" and "zip".
use Rattle.std.specs.Prelude.{ℕ, zero, suc, ◌+◌, ◌==◌, ℤ, pos, Bool, min, not}
use Rattle.std.specs.Prelude.{if◌then◌else◌, List, [], ◌∷◌, ◌++◌}
use Rattle.std.specs.Prelude.{length, slice_get, Result, Ok, Err}
use Rattle.std.specs.Option.{option_to_list}
use Rattle.std.specs.Ordering.{int_eq}
use Rattle.star_calls.specs.Values.{integer, result_then}
use Rattle.star_core.specs.Heaps.{Change, HeapState}
use Rattle.star_core.specs.declared.cells.Cell.TheVariants as cell
use Rattle.star_core.specs.declared.faults.Fault.{Fault}
use Rattle.star_core.specs.declared.faults.Fault.TheVariants as fault
use Rattle.star_core.specs.declared.values.Args.{Args}
use Rattle.star_core.specs.declared.values.NamedVal.{NamedVal}
use Rattle.star_core.specs.declared.values.Val.{Val}
use Rattle.star_core.specs.declared.values.Val.TheVariants as val
use Rattle.star_library.specs.Calls.{give_back, go_on, list_made, tuple_made}
use Rattle.star_library.specs.Kinds.{items_of}
use Rattle.star_numbers.specs.Integers.{sum}
use Rattle.star_operators.specs.Outcomes.{Came}
use Rattle.star_operators.specs.declared.outcomes.Outcome.TheVariants.{New}

-- a range of three numbers, of which the step isn't 0
abbrev pub range_with : Result ℤ Fault → Result ℤ Fault → Result ℤ Fault → Came
range_with (Err reason) stop step = Err reason
range_with (Ok first) (Err reason) step = Err reason
range_with (Ok first) (Ok stop) (Err reason) = Err reason
range_with (Ok first) (Ok stop) (Ok step) =
    if int_eq step (pos 0) then Err fault.Zero else Ok (New (cell.Range first stop step))

-- a range begins at 0 and has the step 1 where these aren't given
unfoldable pub range_of : List Val → Came
range_of [] = Err fault.Arity
range_of (stop ∷ []) = range_with (Ok (pos 0)) (integer stop) (Ok (pos 1))
range_of (first ∷ stop ∷ []) = range_with (integer first) (integer stop) (Ok (pos 1))
range_of (first ∷ stop ∷ step ∷ []) =
    range_with (integer first) (integer stop) (integer step)
range_of (first ∷ stop ∷ step ∷ other ∷ more) = Err fault.Arity

-- whether arguments are named
abbrev pub has_names : List NamedVal → Bool
has_names named = not (length named == 0)

-- `range(first, stop, step)`
abbrev pub range_came : Args → Came
range_came args = if has_names args.named then Err fault.Arity else range_of args.positional

-- an item beside its number, as a tuple
abbrev pub numbered : Result ℤ Fault → Val → HeapState → Change Val
numbered (Ok number) item heap = tuple_made (val.Int number ∷ item ∷ []) heap
numbered (Err reason) item heap = Err reason

-- the number behind one
abbrev pub following : Result ℤ Fault → Result ℤ Fault
following number = result_then number (λ known. sum known (pos 1))

-- items beside their numbers, each made behind those before it
abbrev pub numbered_made : List Val → Result ℤ Fault → List Val → HeapState → Change (List Val)
numbered_made made number [] heap = give_back made heap
numbered_made made number (item ∷ items) heap =
    go_on (numbered number item heap)
    (λ tuple. numbered_made (made ++ tuple ∷ []) (following number) items)

-- `enumerate(list, start)`
abbrev pub enumerated : Result ℤ Fault → Result (List Val) Fault → HeapState → Change Val
enumerated start (Err reason) heap = Err reason
enumerated (Err reason) (Ok items) heap = Err reason
enumerated (Ok start) (Ok items) heap =
    go_on (numbered_made [] (Ok start) items heap) list_made

-- the items of each iterable
abbrev pub with_first : List Val → Result (List (List Val)) Fault → Result (List (List Val)) Fault
with_first items (Ok more) = Ok (items ∷ more)
with_first items (Err reason) = Err reason

abbrev pub all_items : HeapState → List Val → Result (List (List Val)) Fault
all_items heap [] = Ok []
all_items heap (value ∷ values) =
    result_then (items_of heap value) (λ items. with_first items (all_items heap values))

-- how many items the shortest list has
abbrev pub shortest_of : ℕ → List (List Val) → ℕ
shortest_of count [] = count
shortest_of count (items ∷ more) = shortest_of (min count (length items)) more

abbrev pub shortest : List (List Val) → ℕ
shortest [] = 0
shortest (items ∷ more) = shortest_of (length items) more

-- the items with this index of each list
abbrev pub row_at : ℕ → List (List Val) → List Val
row_at index [] = []
row_at index (items ∷ more) = option_to_list (slice_get items index) ++ row_at index more

-- so many rows as tuples, from this index on, each made behind those before it
abbrev pub rows_made : List Val → ℕ → ℕ → List (List Val) → HeapState → Change (List Val)
rows_made made zero index lists heap = give_back made heap
rows_made made (suc count) index lists heap =
    go_on (tuple_made (row_at index lists) heap)
    (λ tuple. rows_made (made ++ tuple ∷ []) count (index + 1) lists)

-- `zip(..)`
abbrev pub zipped : Result (List (List Val)) Fault → HeapState → Change Val
zipped (Ok lists) heap = go_on (rows_made [] (shortest lists) 0 lists heap) list_made
zipped (Err reason) heap = Err reason

abbrev pub zip_row : Args → HeapState → Change Val
zip_row args heap =
    if has_names args.named then Err fault.Arity
    else zipped (all_items heap args.positional) heap
