-- Changes of a list's items. The Starlark specification, "Built-in methods" of lists.
use Rattle.std.specs.Prelude.{ℕ, ℤ, List, [], ◌∷◌, ◌++◌, length, Option, Some, None}
use Rattle.std.specs.Prelude.{Result, Ok, Err, slice_get}
use Rattle.std.specs.List.{insert, remove}
use Rattle.star_calls.specs.Values.{result_then}
use Rattle.star_calls.specs.Edits.{edited_by}
use Rattle.star_calls.specs.declared.edits.Edited.{Edited}
use Rattle.star_core.specs.Heaps.{Change, HeapState}
use Rattle.star_core.specs.Sizes.{item_size}
use Rattle.star_core.specs.declared.cells.Cell.{Cell}
use Rattle.star_core.specs.declared.cells.Cell.TheVariants as cell
use Rattle.star_core.specs.declared.faults.Fault.{Fault}
use Rattle.star_core.specs.declared.faults.Fault.TheVariants as fault
use Rattle.star_core.specs.declared.values.Val.{Val}
use Rattle.star_core.specs.declared.values.Val.TheVariants as val
use Rattle.star_lists.specs.Searching.{index_within}
use Rattle.star_lists.specs.declared.editing.ListEdit.{ListEdit}
use Rattle.star_lists.specs.declared.editing.ListEdit.TheVariants as edit
use Rattle.star_operators.specs.Indexing.{place_of}

-- the items that a list then has, with what they add to the sizes, and a value
abbrev pub left_with : List Val → ℕ → Val → Edited
left_with items added answer =
    record { content = cell.List items; added = added; answer = answer }

-- a list without the item at an index, which is the value
abbrev pub without_item : List Val → ℕ → Option Val → Result Edited Fault
without_item items place None = Err fault.Index
without_item items place (Some item) = Ok (left_with (remove items place) 0 item)

abbrev pub without_place : List Val → ℕ → Result Edited Fault
without_place items place = without_item items place (slice_get items place)

-- the same change with the value None
abbrev pub giving_none : Edited → Result Edited Fault
giving_none edited = Ok (record edited { answer = val.None })

-- a change of items
unfoldable pub items_edited : ListEdit → List Val → Result Edited Fault
items_edited (edit.Append value) items = Ok (left_with (items ++ value ∷ []) item_size val.None)
items_edited edit.Clear items = Ok (left_with [] 0 val.None)
items_edited (edit.Insert at value) items =
    Ok (left_with (insert items (index_within at (length items)) value) item_size val.None)
items_edited (edit.Pop at) items =
    result_then (place_of (val.Int at) (length items)) (without_place items)
items_edited (edit.Remove found) items =
    result_then found (λ place. result_then (without_place items place) giving_none)

-- a change of a list's cell
unfoldable pub list_edited : ListEdit → Cell → Result Edited Fault
list_edited change (cell.List items) = items_edited change items
list_edited change _ = Err fault.Kind

-- a change of a list
abbrev pub list_changed : Val → ListEdit → HeapState → Change Val
list_changed list change = edited_by list (list_edited change)
