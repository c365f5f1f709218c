-- Membership: the Starlark specification, "Membership tests".
use Rattle.std.specs.Prelude.{ℕ, ◌/◌, ◌%◌, ◌==◌, ℤ, ◌-ℤ◌, unsigned_abs, Bool, true, false, nat_lt}
use Rattle.std.specs.Prelude.{◌&&◌, ◌||◌, if◌then◌else◌, List, [], ◌∷◌, Option, Some, None}
use Rattle.std.specs.Prelude.{Result, Ok, Err}
use Rattle.std.specs.Ordering.{int_eq}
use Rattle.star_core.specs.Contents.{key_content, text_in}
use Rattle.star_core.specs.Heaps.{HeapState, cell_at}
use Rattle.star_core.specs.declared.cells.Cell.{Cell}
use Rattle.star_core.specs.declared.cells.Cell.TheVariants as cell
use Rattle.star_core.specs.declared.dict.Pair.{Pair}
use Rattle.star_core.specs.declared.faults.Fault.{Fault}
use Rattle.star_core.specs.declared.faults.Fault.TheVariants as fault
use Rattle.star_core.specs.declared.values.Val.{Val}
use Rattle.star_core.specs.declared.values.Val.TheVariants as val
use Rattle.star_library.specs.Ranges.{leads_on, range_length}
use Rattle.star_order.specs.Contained.{Rule}
use Rattle.star_order.specs.Equality.{equal}
use Rattle.star_order.specs.Keys.{pair_found}

-- one is, or another: the first that is, or is refused, decides
abbrev pub or_else : Result Bool Fault → Result Bool Fault → Result Bool Fault
or_else (Ok true) rest = Ok true
or_else (Ok false) rest = rest
or_else (Err reason) rest = Err reason

-- a value is equal to one of the items
abbrev pub is_item : Rule Bool → Val → List Val → Result Bool Fault
is_item same value [] = Ok false
is_item same value (item ∷ items) = or_else (same item value) (is_item same value items)

-- a text stands at the head of another one
abbrev pub begins_with : List ℕ → List ℕ → Bool
begins_with [] text = true
begins_with (first ∷ part) [] = false
begins_with (first ∷ part) (other ∷ text) = (first == other) && begins_with part text

-- a text stands somewhere in another one
abbrev pub has_part : List ℕ → List ℕ → Bool
has_part part [] = begins_with part []
has_part part (first ∷ text) =
    if begins_with part (first ∷ text) then true else has_part part text

-- a string has no parts but strings
abbrev pub is_part : Option (List ℕ) → List ℕ → Result Bool Fault
is_part (Some part) text = Ok (has_part part text)
is_part None text = Err fault.Kind

-- a number is one of a range: it lies a whole number of steps behind the first, and fewer than the
-- range has numbers
unfoldable pub in_range : ℤ → ℤ → ℤ → ℤ → Bool
in_range first stop step number =
    (int_eq first number || leads_on first number step)
    && ((unsigned_abs (number -ℤ first) % unsigned_abs step == 0)
    && nat_lt (unsigned_abs (number -ℤ first) / unsigned_abs step) (range_length first stop step))

-- a range has no items but integers
abbrev pub is_number_of : ℤ → ℤ → ℤ → Val → Bool
is_number_of first stop step (val.Int number) = in_range first stop step number
is_number_of first stop step val.None = false
is_number_of first stop step (val.Bool flag) = false
is_number_of first stop step (val.Cell number) = false

-- a key that is there
abbrev pub is_found : Result (Option Pair) Fault → Result Bool Fault
is_found (Ok (Some pair)) = Ok true
is_found (Ok None) = Ok false
is_found (Err reason) = Err reason

-- a value is in a container: a string has its parts, a dictionary its keys
unfoldable pub among : HeapState → Val → Option Cell → Result Bool Fault
among heap value (Some (cell.Text text)) = is_part (text_in (cell_at heap value)) text
among heap value (Some (cell.List items)) = is_item (equal heap) value items
among heap value (Some (cell.Tuple items)) = is_item (equal heap) value items
among heap value (Some (cell.Dict entries)) =
    is_found (pair_found (key_content heap value) entries)
among heap value (Some (cell.Range first stop step)) = Ok (is_number_of first stop step value)
among heap value _ = Err fault.Kind
