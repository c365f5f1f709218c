-- Values by their kind: the type's name, the truth, and what iterating gives. The Starlark
-- specification, "Data types", "Booleans" and "Iteration".
use Rattle.std.specs.Prelude.{ℕ, ◌==◌, pos, Bool, true, false, not, List, [], map, length, codes}
use Rattle.std.specs.Prelude.{Option, Some, None, Result, Ok, Err}
use Rattle.std.specs.Ordering.{int_eq}
use Rattle.star_core.specs.Heaps.{HeapState, cell_at}
use Rattle.star_core.specs.declared.cells.Cell.{Cell}
use Rattle.star_core.specs.declared.cells.Cell.TheVariants as cell
use Rattle.star_core.specs.declared.faults.Fault.{Fault}
use Rattle.star_core.specs.declared.faults.Fault.TheVariants as fault
use Rattle.star_core.specs.declared.values.Val.{Val}
use Rattle.star_core.specs.declared.values.Val.TheVariants as val
use Rattle.star_library.specs.Ranges.{range_items, range_length}

-- the name of a cell's type; a number without a cell has none
unfoldable pub cell_type : Option Cell → List ℕ
cell_type None = []
cell_type (Some (cell.Text text)) = codes "string"
cell_type (Some (cell.List items)) = codes "list"
cell_type (Some (cell.Tuple items)) = codes "tuple"
cell_type (Some (cell.Dict entries)) = codes "dict"
cell_type (Some (cell.Range first stop step)) = codes "range"
cell_type (Some (cell.Function function)) = codes "function"
cell_type (Some (cell.Builtin name)) = codes "builtin_function_or_method"
cell_type (Some (cell.Bound receiver method)) = codes "builtin_function_or_method"
cell_type (Some (cell.Struct fields)) = codes "struct"
cell_type (Some (cell.Label label)) = codes "Label"
cell_type (Some (cell.Path repo segments)) = codes "path"
cell_type (Some (cell.Host kind fields)) = kind

-- the name of a value's type
unfoldable pub type_name : HeapState → Val → List ℕ
type_name heap val.None = codes "NoneType"
type_name heap (val.Bool flag) = codes "bool"
type_name heap (val.Int number) = codes "int"
type_name heap (val.Cell number) = cell_type (cell_at heap (val.Cell number))

-- what is empty is false, any other cell is true
unfoldable pub cell_is_true : Option Cell → Bool
cell_is_true None = true
cell_is_true (Some (cell.Text text)) = not (length text == 0)
cell_is_true (Some (cell.List items)) = not (length items == 0)
cell_is_true (Some (cell.Tuple items)) = not (length items == 0)
cell_is_true (Some (cell.Dict entries)) = not (length entries == 0)
cell_is_true (Some (cell.Range first stop step)) = not (range_length first stop step == 0)
cell_is_true (Some (cell.Function function)) = true
cell_is_true (Some (cell.Builtin name)) = true
cell_is_true (Some (cell.Bound receiver method)) = true
cell_is_true (Some (cell.Struct fields)) = true
cell_is_true (Some (cell.Label label)) = true
cell_is_true (Some (cell.Path repo segments)) = true
cell_is_true (Some (cell.Host kind fields)) = true

-- None, False, 0 and what is empty are false
unfoldable pub is_true : HeapState → Val → Bool
is_true heap val.None = false
is_true heap (val.Bool flag) = flag
is_true heap (val.Int number) = not (int_eq number (pos 0))
is_true heap (val.Cell number) = cell_is_true (cell_at heap (val.Cell number))

-- the values over which a cell iterates: items, keys or numbers in order
unfoldable pub cell_items : Option Cell → Result (List Val) Fault
cell_items None = Err fault.Kind
cell_items (Some (cell.Text text)) = Err fault.Kind
cell_items (Some (cell.List items)) = Ok items
cell_items (Some (cell.Tuple items)) = Ok items
cell_items (Some (cell.Dict entries)) = Ok (map (λ entry. entry.pair.key) entries)
cell_items (Some (cell.Range first stop step)) = Ok (map val.Int (range_items first stop step))
cell_items (Some (cell.Function function)) = Err fault.Kind
cell_items (Some (cell.Builtin name)) = Err fault.Kind
cell_items (Some (cell.Bound receiver method)) = Err fault.Kind
cell_items (Some (cell.Struct fields)) = Err fault.Kind
cell_items (Some (cell.Label label)) = Err fault.Kind
cell_items (Some (cell.Path repo segments)) = Err fault.Kind
cell_items (Some (cell.Host kind fields)) = Err fault.Kind

-- the values over which a value iterates
abbrev pub items_of : HeapState → Val → Result (List Val) Fault
items_of heap value = cell_items (cell_at heap value)
