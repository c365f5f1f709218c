-- `x[begin:end:step]`: the Starlark specification, "Slice expressions". Begin and end count from
-- the end where they are negative, and clamp to what is there.
use Rattle.std.specs.Prelude.{[], ◌∷◌, ◌++◌}
use Rattle.std.specs.Prelude.{ℕ, ℤ, pos, negsuc, ◌+ℤ◌, ◌*ℤ◌, ◌-ℤ◌, int_lt, if◌then◌else◌}
use Rattle.std.specs.Prelude.{List, length, Option, Some, None, Result, Ok, Err}
use Rattle.std.specs.Prelude.{slice_get, encode_utf8_all, unsigned_abs}
use Rattle.std.specs.Int.{int_max, int_min}
use Rattle.std.specs.Option.{option_to_list}
use Rattle.std.specs.Ordering.{int_eq}
use Rattle.std.specs.Str.{chars}
use Rattle.star_core.specs.Heaps.{Change, HeapState, cell_at}
use Rattle.star_core.specs.declared.cells.Cell.{Cell}
use Rattle.star_core.specs.declared.cells.Cell.TheVariants as cell
use Rattle.star_core.specs.declared.faults.Fault.{Fault}
use Rattle.star_core.specs.declared.faults.Fault.TheVariants as fault
use Rattle.star_core.specs.declared.values.Val.{Val}
use Rattle.star_core.specs.declared.values.Val.TheVariants as val
use Rattle.star_library.specs.Ranges.{range_items, range_length}
use Rattle.star_numbers.specs.Integers.{fitted, product}
use Rattle.star_operators.specs.Outcomes.{Came, finished}
use Rattle.star_operators.specs.declared.outcomes.Outcome.TheVariants.{New}
use Rattle.star_containers.specs.declared.slicing.Bounds.{Bounds}

-- a bound that is given as an integer, or not at all: by nothing or by None
abbrev pub bound_of : Option Val → Result (Option ℤ) Fault
bound_of None = Ok None
bound_of (Some val.None) = Ok None
bound_of (Some (val.Int number)) = Ok (Some number)
bound_of (Some (val.Bool flag)) = Err fault.Kind
bound_of (Some (val.Cell number)) = Err fault.Kind

-- the step is 1 where it isn't given, and never 0
abbrev pub bounds_with : Result (Option ℤ) Fault
    → Result (Option ℤ) Fault
    → Result (Option ℤ) Fault
    → Result Bounds Fault
bounds_with (Err reason) end step = Err reason
bounds_with (Ok begin) (Err reason) step = Err reason
bounds_with (Ok begin) (Ok end) (Err reason) = Err reason
bounds_with (Ok begin) (Ok end) (Ok None) = Ok (record { begin = begin; end = end; step = pos 1 })
bounds_with (Ok begin) (Ok end) (Ok (Some step)) =
    if int_eq step (pos 0) then Err fault.Zero
    else Ok (record { begin = begin; end = end; step = step })

abbrev pub bounds_of : Option Val → Option Val → Option Val → Result Bounds Fault
bounds_of begin end step = bounds_with (bound_of begin) (bound_of end) (bound_of step)

-- a bound from the front: a negative one counts from the end of so many items
abbrev pub from_front : ℕ → ℤ → ℤ
from_front count bound = if int_lt bound (pos 0) then bound +ℤ pos count else bound

-- a bound from the front, no less than the least and no more than the greatest
abbrev pub clamped : (least greatest : ℤ) → (count : ℕ) → ℤ → ℤ
clamped least greatest count bound =
    int_max least (int_min greatest (from_front count bound))

-- the same of a bound that may be absent
abbrev pub bound_or : (absent least greatest : ℤ) → (count : ℕ) → Option ℤ → ℤ
bound_or absent least greatest count None = absent
bound_or absent least greatest count (Some bound) = clamped least greatest count bound

-- the first index of a slice of so many items, and the one behind its last; backwards they are from
-- the last item to the one before the first
unfoldable pub slice_first : Bounds → ℕ → ℤ
slice_first bounds count =
    if int_lt bounds.step (pos 0)
    then bound_or (pos count -ℤ pos 1) (negsuc 0) (pos count -ℤ pos 1) count bounds.begin
    else bound_or (pos 0) (pos 0) (pos count) count bounds.begin

unfoldable pub slice_stop : Bounds → ℕ → ℤ
slice_stop bounds count =
    if int_lt bounds.step (pos 0)
    then bound_or (negsuc 0) (negsuc 0) (pos count -ℤ pos 1) count bounds.end
    else bound_or (pos count) (pos 0) (pos count) count bounds.end

-- the items with these numbers
abbrev pub items_at : {A : Type 0} → List A → List ℤ → List A
items_at items [] = []
items_at items (index ∷ indexes) =
    option_to_list (slice_get items (unsigned_abs index)) ++ items_at items indexes

-- the same, where the numbers are values
abbrev pub numbered : {A : Type 0} → List A → Val → Option A
numbered items (val.Int index) = slice_get items (unsigned_abs index)
numbered items val.None = None
numbered items (val.Bool flag) = None
numbered items (val.Cell number) = None

abbrev pub items_numbered : {A : Type 0} → List A → List Val → List A
items_numbered items [] = []
items_numbered items (index ∷ indexes) =
    option_to_list (numbered items index) ++ items_numbered items indexes

-- the items of a slice, in the order of its indexes
abbrev pub sliced_items : {A : Type 0} → List A → Bounds → List A
sliced_items items bounds =
    items_at items (range_items (slice_first bounds (length items))
    (slice_stop bounds (length items)) bounds.step)

-- a range of which first, stop and step have 64 bits
abbrev pub range_came : Result ℤ Fault → Result ℤ Fault → Result ℤ Fault → Came
range_came (Ok first) (Ok stop) (Ok step) = Ok (New (cell.Range first stop step))
range_came (Err reason) stop step = Err reason
range_came (Ok first) (Err reason) step = Err reason
range_came (Ok first) (Ok stop) (Err reason) = Err reason

-- the slice of a range of so many numbers
unfoldable pub counted_range : ℕ → ℤ → ℤ → Bounds → Came
counted_range count first step bounds =
    range_came (fitted (first +ℤ slice_first bounds count *ℤ step))
    (fitted (first +ℤ slice_stop bounds count *ℤ step)) (product step bounds.step)

-- the slice of a range is a range
abbrev pub sliced_range : ℤ → ℤ → ℤ → Bounds → Came
sliced_range first stop step bounds =
    counted_range (range_length first stop step) first step bounds

-- the slice of a cell
unfoldable pub sliced : Option Cell → Bounds → Came
sliced (Some (cell.Text text)) bounds =
    Ok (New (cell.Text (encode_utf8_all (sliced_items (chars text) bounds))))
sliced (Some (cell.List items)) bounds = Ok (New (cell.List (sliced_items items bounds)))
sliced (Some (cell.Tuple items)) bounds = Ok (New (cell.Tuple (sliced_items items bounds)))
sliced (Some (cell.Range first stop step)) bounds = sliced_range first stop step bounds
sliced _ bounds = Err fault.Kind

abbrev pub slice_by : Option Cell → Result Bounds Fault → Came
slice_by held (Ok bounds) = sliced held bounds
slice_by held (Err reason) = Err reason

-- the slice of a value
abbrev pub slice_of : Val → Option Val → Option Val → Option Val → HeapState → Change Val
slice_of container begin end step heap =
    finished (slice_by (cell_at heap container) (bounds_of begin end step)) heap
