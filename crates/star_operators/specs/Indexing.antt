-- `x[i]`: the Starlark specification, "Index expressions". A negative index counts from the end.
use Rattle.std.specs.Prelude.{ℕ, ◌-◌, ◌*ℤ◌, ◌+ℤ◌, ℤ, pos, int_lt, nat_lt, unsigned_abs}
use Rattle.std.specs.Prelude.{if◌then◌else◌}
use Rattle.std.specs.Prelude.{List, length, Option, Some, None, Result, Ok, Err, slice_get}
use Rattle.std.specs.Prelude.{encode_utf8}
use Rattle.std.specs.Str.{chars}
use Rattle.star_core.specs.Contents.{key_content}
use Rattle.star_core.specs.Heaps.{Change, HeapState, cell_at}
use Rattle.star_core.specs.declared.cells.Cell.{Cell}
use Rattle.star_core.specs.declared.cells.Cell.TheVariants as cell
use Rattle.star_core.specs.declared.dict.Pair.{Pair}
use Rattle.star_core.specs.declared.faults.Fault.{Fault}
use Rattle.star_core.specs.declared.faults.Fault.TheVariants as fault
use Rattle.star_core.specs.declared.values.Val.{Val}
use Rattle.star_core.specs.declared.values.Val.TheVariants as val
use Rattle.star_library.specs.Ranges.{range_length}
use Rattle.star_numbers.specs.Integers.{fitted}
use Rattle.star_operators.specs.Outcomes.{Came, finished, number_came}
use Rattle.star_operators.specs.declared.outcomes.Outcome.TheVariants.{Known, New}
use Rattle.star_order.specs.Keys.{pair_found}

-- an index so far from the end of so many items
abbrev pub from_end : ℕ → ℕ → Option ℕ
from_end distance count = if nat_lt count distance then None else Some (count - distance)

-- an index of so many items, where it is one
unfoldable pub placed : ℤ → ℕ → Option ℕ
placed index count =
    if int_lt index (pos 0)
    then from_end (unsigned_abs index) count
    else (if nat_lt (unsigned_abs index) count then Some (unsigned_abs index) else None)

-- an index that is there
abbrev pub is_there : Option ℕ → Result ℕ Fault
is_there (Some place) = Ok place
is_there None = Err fault.Index

-- the index that a value is of so many items
abbrev pub place_of : Val → ℕ → Result ℕ Fault
place_of (val.Int index) count = is_there (placed index count)
place_of val.None count = Err fault.Kind
place_of (val.Bool flag) count = Err fault.Kind
place_of (val.Cell number) count = Err fault.Kind

-- what stands at an index, or why nothing does
abbrev pub came_from : {A : Type 0} → (A → Came) → Option A → Came
came_from made (Some one) = made one
came_from made None = Err fault.Index

-- an item, a character or a number at an index
abbrev pub at_place : (ℕ → Came) → Result ℕ Fault → Came
at_place made (Ok place) = made place
at_place made (Err reason) = Err reason

-- the item with this number
abbrev pub item_there : List Val → ℕ → Came
item_there items place = came_from (λ item. Ok (Known item)) (slice_get items place)

-- the item of a list or a tuple
abbrev pub item_at : List Val → Val → Came
item_at items at = at_place (item_there items) (place_of at (length items))

-- the character with this number
abbrev pub character_there : List ℕ → ℕ → Came
character_there characters place =
    came_from (λ one. Ok (New (cell.Text (encode_utf8 one)))) (slice_get characters place)

-- the character at an index, as a string of its own
abbrev pub character_among : List ℕ → Val → Came
character_among characters at =
    at_place (character_there characters) (place_of at (length characters))

-- the character of a string; characters are scalar values
abbrev pub character_at : List ℕ → Val → Came
character_at text at = character_among (chars text) at

-- the number so many steps behind the first
abbrev pub number_there : ℤ → ℤ → ℕ → Came
number_there first step place = number_came (fitted (first +ℤ pos place *ℤ step))

-- the number of a range
abbrev pub number_at : ℤ → ℤ → ℤ → Val → Came
number_at first stop step at =
    at_place (number_there first step) (place_of at (range_length first stop step))

-- the value that a dictionary has under a key
abbrev pub value_at : Result (Option Pair) Fault → Came
value_at (Ok (Some pair)) = Ok (Known pair.value)
value_at (Ok None) = Err fault.Key
value_at (Err reason) = Err reason

-- what a cell has at an index or under a key
unfoldable pub indexed : HeapState → Option Cell → Val → Came
indexed heap (Some (cell.Text text)) at = character_at text at
indexed heap (Some (cell.List items)) at = item_at items at
indexed heap (Some (cell.Tuple items)) at = item_at items at
indexed heap (Some (cell.Dict entries)) at = value_at (pair_found (key_content heap at) entries)
indexed heap (Some (cell.Range first stop step)) at = number_at first stop step at
indexed heap _ at = Err fault.Kind

-- what a value has at an index or under a key
abbrev pub index_of : Val → Val → HeapState → Change Val
index_of container at heap = finished (indexed heap (cell_at heap container) at) heap
