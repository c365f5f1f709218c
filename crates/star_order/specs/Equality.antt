-- Equality of values: the Starlark specification, "Comparisons". Values of different types are
-- unequal. Strings, lists, tuples, dictionaries, ranges, structs and labels are equal by content,
-- and library functions by name; all else is equal to itself alone.
use Rattle.std.specs.Prelude.{ℕ, zero, suc, ℤ, Bool, true, false, not, ◌&&◌, if◌then◌else◌, nat_eq}
use Rattle.std.specs.Prelude.{List, [], ◌∷◌, length, Option, Some, None, option_map}
use Rattle.std.specs.Prelude.{Result, Ok, Err, bytes_eq}
use Rattle.std.specs.Ordering.{int_eq}
use Rattle.bz_base.specs.declared.labels.Label.{Label}
use Rattle.star_core.specs.Dicts.{Entry, entry_of}
use Rattle.star_core.specs.Heaps.{HeapState, cell_at}
use Rattle.star_core.specs.declared.cells.Cell.{Cell}
use Rattle.star_core.specs.declared.cells.Cell.TheVariants as cell
use Rattle.star_core.specs.declared.faults.Fault.{Fault}
use Rattle.star_core.specs.declared.faults.Fault.TheVariants as fault
use Rattle.star_core.specs.declared.values.NamedVal.{NamedVal}
use Rattle.star_core.specs.declared.values.Val.{Val}
use Rattle.star_core.specs.declared.values.Val.TheVariants as val
use Rattle.star_order.specs.Contained.{Inside, Rule}
use Rattle.star_order.specs.Ranges.{same_range}
use Rattle.star_trees.specs.Nesting.{deepest}

-- two are equal and the rest is: the first that is unequal, or refused, decides
abbrev pub and_equal : Result Bool Fault → Result Bool Fault → Result Bool Fault
and_equal (Ok true) rest = rest
and_equal (Ok false) rest = Ok false
and_equal (Err reason) rest = Err reason

-- item by item
abbrev pub items_equal : Rule Bool → List Val → List Val → Result Bool Fault
items_equal same [] [] = Ok true
items_equal same [] (other ∷ others) = Ok false
items_equal same (item ∷ items) [] = Ok false
items_equal same (item ∷ items) (other ∷ others) =
    and_equal (same item other) (items_equal same items others)

-- a value is there and equal
abbrev pub found_equal : Rule Bool → Val → Option Val → Result Bool Fault
found_equal same value None = Ok false
found_equal same value (Some other) = same value other

-- what stands under the content of a key
abbrev pub value_under : List ℕ → List Entry → Option Val
value_under content entries = option_map (λ pair. pair.value) (entry_of content entries)

-- each entry's value is equal to what the other dictionary has under its key
abbrev pub entries_equal : Rule Bool → List Entry → List Entry → Result Bool Fault
entries_equal same [] others = Ok true
entries_equal same (entry ∷ entries) others =
    and_equal (found_equal same entry.pair.value (value_under entry.content others))
    (entries_equal same entries others)

-- the value of the field with this name
abbrev pub field_named : List ℕ → List NamedVal → Option Val
field_named name [] = None
field_named name (field ∷ fields) =
    if bytes_eq name field.name then Some field.val else field_named name fields

-- each field's value is equal to that of the other struct's field of its name
abbrev pub fields_equal : Rule Bool → List NamedVal → List NamedVal → Result Bool Fault
fields_equal same [] others = Ok true
fields_equal same (field ∷ fields) others =
    and_equal (found_equal same field.val (field_named field.name others))
    (fields_equal same fields others)

-- lists and tuples of one length are equal item by item, whatever the other lengths
abbrev pub lists_equal : Inside Bool → List Val → List Val → Result Bool Fault
lists_equal None items others = Err fault.Depth
lists_equal (Some same) items others =
    if nat_eq (length items) (length others) then items_equal same items others else Ok false

-- dictionaries with as many entries, whatever their order
abbrev pub dicts_equal : Inside Bool → List Entry → List Entry → Result Bool Fault
dicts_equal None entries others = Err fault.Depth
dicts_equal (Some same) entries others =
    if nat_eq (length entries) (length others) then entries_equal same entries others
    else Ok false

-- structs with as many fields
abbrev pub structs_equal : Inside Bool → List NamedVal → List NamedVal → Result Bool Fault
structs_equal None fields others = Err fault.Depth
structs_equal (Some same) fields others =
    if nat_eq (length fields) (length others) then fields_equal same fields others else Ok false

-- a label is its repository, its package and its name
abbrev pub labels_equal : Label → Label → Bool
labels_equal label other =
    bytes_eq label.repo other.repo && (bytes_eq label.package other.package
    && bytes_eq label.name other.name)

-- a text beside a cell
unfoldable pub text_equal : List ℕ → Cell → Bool
text_equal text (cell.Text other) = bytes_eq text other
text_equal text _ = false

-- a library function beside a cell
unfoldable pub builtin_equal : List ℕ → Cell → Bool
builtin_equal name (cell.Builtin other) = bytes_eq name other
builtin_equal name _ = false

-- a label beside a cell
unfoldable pub label_equal : Label → Cell → Bool
label_equal label (cell.Label other) = labels_equal label other
label_equal label _ = false

-- a range beside a cell
unfoldable pub range_equal : ℤ → ℤ → ℤ → Cell → Bool
range_equal first stop step (cell.Range other_first other_stop other_step) =
    same_range first stop step other_first other_stop other_step
range_equal first stop step _ = false

-- a list beside a cell
unfoldable pub list_equal : Inside Bool → List Val → Cell → Result Bool Fault
list_equal inside items (cell.List others) = lists_equal inside items others
list_equal inside items _ = Ok false

-- a tuple beside a cell
unfoldable pub tuple_equal : Inside Bool → List Val → Cell → Result Bool Fault
tuple_equal inside items (cell.Tuple others) = lists_equal inside items others
tuple_equal inside items _ = Ok false

-- a dictionary beside a cell
unfoldable pub dict_equal : Inside Bool → List Entry → Cell → Result Bool Fault
dict_equal inside entries (cell.Dict others) = dicts_equal inside entries others
dict_equal inside entries _ = Ok false

-- a struct beside a cell
unfoldable pub struct_equal : Inside Bool → List NamedVal → Cell → Result Bool Fault
struct_equal inside fields (cell.Struct others) = structs_equal inside fields others
struct_equal inside fields _ = Ok false

-- two cells, of which it is known whether they are one
unfoldable pub cells_equal : Inside Bool → Bool → Cell → Cell → Result Bool Fault
cells_equal inside one (cell.Text text) other = Ok (text_equal text other)
cells_equal inside one (cell.List items) other = list_equal inside items other
cells_equal inside one (cell.Tuple items) other = tuple_equal inside items other
cells_equal inside one (cell.Dict entries) other = dict_equal inside entries other
cells_equal inside one (cell.Range first stop step) other = Ok (range_equal first stop step other)
cells_equal inside one (cell.Function function) other = Ok one
cells_equal inside one (cell.Builtin name) other = Ok (builtin_equal name other)
cells_equal inside one (cell.Bound receiver method) other = Ok one
cells_equal inside one (cell.Struct fields) other = struct_equal inside fields other
cells_equal inside one (cell.Label label) other = Ok (label_equal label other)
cells_equal inside one (cell.Path repo segments) other = Ok one
cells_equal inside one (cell.Host kind fields) other = Ok one

-- the cells of two values
abbrev pub held_equal : Inside Bool → Bool → Option Cell → Option Cell → Result Bool Fault
held_equal inside one (Some cell) (Some other) = cells_equal inside one cell other
held_equal inside one (Some cell) None = Ok one
held_equal inside one None other = Ok one

-- two bools
abbrev pub same_flag : Bool → Bool → Bool
same_flag true other = other
same_flag false other = not other

-- two values, by what is asked of those inside a container
unfoldable pub values_equal : Inside Bool → HeapState → Val → Val → Result Bool Fault
values_equal inside heap val.None val.None = Ok true
values_equal inside heap (val.Bool flag) (val.Bool other) = Ok (same_flag flag other)
values_equal inside heap (val.Int number) (val.Int other) = Ok (int_eq number other)
values_equal inside heap (val.Cell number) (val.Cell other) =
    held_equal inside (nat_eq number other) (cell_at heap (val.Cell number))
    (cell_at heap (val.Cell other))
values_equal inside heap _ _ = Ok false

-- two values in which so many containers nest at most
unfoldable pub equal_within : ℕ → HeapState → Rule Bool
equal_within zero heap value other = values_equal None heap value other
equal_within (suc depth) heap value other =
    values_equal (Some (equal_within depth heap)) heap value other

-- the rule for what lies inside the outermost of so many containers
unfoldable pub equal_inside : ℕ → HeapState → Inside Bool
equal_inside zero heap = None
equal_inside (suc depth) heap = Some (equal_within depth heap)

-- whether two values are equal
abbrev pub equal : HeapState → Rule Bool
equal heap value other = equal_within deepest heap value other
