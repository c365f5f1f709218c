-- The rows of the methods of lists: the arguments bind and are of their kinds, and the list is
-- changed or searched. What depends on the items comes last.
use Rattle.std.specs.Prelude.{ℕ, pos, negsuc, List, Option, Result, Ok, Err}
use Rattle.star_calls.specs.Values.{given_at, integer, integer_or, needed_at, result_then}
use Rattle.star_containers.specs.Changing.{extended}
use Rattle.star_core.specs.Heaps.{Change, HeapState, cell_at}
use Rattle.star_core.specs.declared.faults.Fault.{Fault}
use Rattle.star_core.specs.declared.values.Args.{Args}
use Rattle.star_core.specs.declared.values.Val.{Val}
use Rattle.star_core.specs.declared.values.Val.TheVariants as val
use Rattle.star_library.specs.Arguments.{arguments_bound}
use Rattle.star_library.specs.Calls.{give_back, go_on, result_of}
use Rattle.star_lists.specs.Edits.{list_changed}
use Rattle.star_lists.specs.MethodNames.{parameters_of}
use Rattle.star_lists.specs.Searching.{index_among, list_in, place_in}
use Rattle.star_lists.specs.declared.editing.ListEdit.{ListEdit}
use Rattle.star_lists.specs.declared.editing.ListEdit.TheVariants as edit
use Rattle.star_lists.specs.declared.methods.ListMethod.{ListMethod}
use Rattle.star_lists.specs.declared.methods.ListMethod.TheVariants as method

-- a change whose arguments may be refused
abbrev pub changed_if : Val → Result ListEdit Fault → HeapState → Change Val
changed_if list (Ok change) heap = list_changed list change heap
changed_if list (Err reason) heap = Err reason

-- `insert(index, item)`
abbrev pub insertion : List (Option Val) → Result ListEdit Fault
insertion values =
    result_then (integer (needed_at 0 values)) (λ at. Ok (edit.Insert at (needed_at 1 values)))

-- `pop(i)`, which takes the last item where no index is given
abbrev pub popping : List (Option Val) → Result ListEdit Fault
popping values =
    result_then (integer_or (negsuc 0) (given_at 0 values)) (λ at. Ok (edit.Pop at))

-- `remove(x)`: the item is sought before the list is taken
unfoldable pub removal : Val → Val → HeapState → Change Val
removal list value heap = list_changed list (edit.Remove (place_in heap list value)) heap

-- an index as a value
abbrev pub index_value : ℕ → Result Val Fault
index_value index = Ok (val.Int (pos index))

-- `index(x, start, end)`
abbrev pub index_answer : HeapState → Val → List (Option Val) → Result Val Fault
index_answer heap list values =
    result_then (result_then (list_in (cell_at heap list)) (index_among heap values)) index_value

-- a method of a list with the values of its parameters
unfoldable pub list_called : ListMethod → Val → List (Option Val) → HeapState → Change Val
list_called method.Append list values heap =
    list_changed list (edit.Append (needed_at 0 values)) heap
list_called method.Clear list values heap = list_changed list edit.Clear heap
list_called method.Extend list values heap =
    go_on (extended list (needed_at 0 values) heap) (λ done. give_back val.None)
list_called method.Index list values heap = result_of (index_answer heap list values) heap
list_called method.Insert list values heap = changed_if list (insertion values) heap
list_called method.Pop list values heap = changed_if list (popping values) heap
list_called method.Remove list values heap = removal list (needed_at 0 values) heap

-- the row of a method
unfoldable pub list_row : ListMethod → Val → Args → HeapState → Change Val
list_row method list args heap =
    go_on (result_of (arguments_bound (parameters_of method) args) heap) (list_called method list)
