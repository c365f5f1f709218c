-- Where a value stands in a list: the Starlark specification, "list·index" and "list·remove".
use Rattle.std.specs.Prelude.{ℕ, suc, ◌+◌, ◌-◌, min, ℤ, pos, negsuc, Bool, true, false, List, []}
use Rattle.std.specs.Prelude.{◌∷◌, drop, length, take, Option, Some, None, Result, Ok, Err}
use Rattle.star_calls.specs.Values.{given_at, integer, needed_at, result_then}
use Rattle.star_core.specs.Heaps.{HeapState, cell_at}
use Rattle.star_core.specs.declared.cells.Cell.{Cell}
use Rattle.star_core.specs.declared.cells.Cell.TheVariants as cell
use Rattle.star_core.specs.declared.faults.Fault.{Fault}
use Rattle.star_core.specs.declared.faults.Fault.TheVariants as fault
use Rattle.star_core.specs.declared.values.Val.{Val}
use Rattle.star_order.specs.Contained.{Rule}
use Rattle.star_order.specs.Equality.{equal}

-- an index behind so many others
abbrev pub shifted : ℕ → Result ℕ Fault → Result ℕ Fault
shifted front (Ok index) = Ok (front + index)
shifted front (Err reason) = Err reason

-- an item is the one that is sought, or one of those behind it is
abbrev pub or_behind : Result Bool Fault → Result ℕ Fault → Result ℕ Fault
or_behind (Ok true) rest = Ok 0
or_behind (Ok false) rest = shifted 1 rest
or_behind (Err reason) rest = Err reason

-- the index of the first item that is equal to a value
abbrev pub first_equal : Rule Bool → Val → List Val → Result ℕ Fault
first_equal same value [] = Err fault.Value
first_equal same value (item ∷ items) =
    or_behind (same item value) (first_equal same value items)

-- an index of a list that is so long: a negative one counts from the end, and one beyond the list
-- is its front or its end
abbrev pub index_within : ℤ → ℕ → ℕ
index_within (pos index) long = min index long
index_within (negsuc less) long = long - suc less

abbrev pub bounded : Result ℤ Fault → ℕ → Result ℕ Fault
bounded (Ok index) long = Ok (index_within index long)
bounded (Err reason) long = Err reason

-- an index that may be left out
abbrev pub bound_of : ℕ → ℕ → Option Val → Result ℕ Fault
bound_of long default None = Ok default
bound_of long default (Some value) = bounded (integer value) long

-- the indexes from which and up to which a value is sought: all of a list where none is given
unfoldable pub bounds_of : ℕ → List (Option Val) → Result (ℕ × ℕ) Fault
bounds_of long values =
    result_then (bound_of long 0 (given_at 1 values))
    (λ start. result_then (bound_of long long (given_at 2 values)) (λ end. Ok (start, end)))

-- the index of a value between two bounds
abbrev pub found_between : HeapState → Val → List Val → (ℕ × ℕ) → Result ℕ Fault
found_between heap value items bounds =
    shifted bounds.0 (first_equal (equal heap) value (drop bounds.0 (take bounds.1 items)))

-- the index of the first argument between the other two
unfoldable pub index_among : HeapState → List (Option Val) → List Val → Result ℕ Fault
index_among heap values items =
    result_then (bounds_of (length items) values)
    (found_between heap (needed_at 0 values) items)

-- the items of a list's cell
unfoldable pub list_in : Option Cell → Result (List Val) Fault
list_in (Some (cell.List items)) = Ok items
list_in _ = Err fault.Kind

-- the index of a list's first item that is equal to a value
abbrev pub place_in : HeapState → Val → Val → Result ℕ Fault
place_in heap list value =
    result_then (list_in (cell_at heap list)) (first_equal (equal heap) value)
