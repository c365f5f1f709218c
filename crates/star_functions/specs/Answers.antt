-- What functions come to: a value that is there, or a cell that is to be made. The Starlark
-- specification, "Built-in constants and functions".
use Rattle.std.specs.Prelude.{ℕ, ℤ, pos, int_lt, Bool, true, false, if◌then◌else◌, List, [], ◌∷◌}
use Rattle.std.specs.Prelude.{length, reverse, Option, Some, None, Result, Ok, Err}
use Rattle.std.specs.List.{list_all, list_any}
use Rattle.std.specs.Ordering.{int_eq}
use Rattle.std.specs.Str.{chars}
use Rattle.star_calls.specs.Values.{flag_or, given, given_at, integer, needed_at, only_named}
use Rattle.star_calls.specs.Values.{result_then, value_at}
use Rattle.star_core.specs.Contents.{text_in}
use Rattle.star_core.specs.Heaps.{HeapState, cell_at}
use Rattle.star_core.specs.declared.cells.Cell.{Cell}
use Rattle.star_core.specs.declared.cells.Cell.TheVariants as cell
use Rattle.star_core.specs.declared.faults.Fault.{Fault}
use Rattle.star_core.specs.declared.faults.Fault.TheVariants as fault
use Rattle.star_core.specs.declared.values.Args.{Args}
use Rattle.star_core.specs.declared.values.NamedVal.{NamedVal}
use Rattle.star_core.specs.declared.values.Val.{Val}
use Rattle.star_core.specs.declared.values.Val.TheVariants as val
use Rattle.star_functions.specs.FunctionNames.{parameters_of}
use Rattle.star_functions.specs.declared.functions.LibraryFunction.{LibraryFunction}
use Rattle.star_functions.specs.declared.functions.LibraryFunction.TheVariants as function
use Rattle.star_functions.specs.Sequences.{range_came}
use Rattle.star_integers.specs.Spellings.{integer_of}
use Rattle.star_library.specs.Arguments.{OneBound, arguments_bound}
use Rattle.star_library.specs.Kinds.{is_true, items_of, type_name}
use Rattle.star_library.specs.Ranges.{range_length}
use Rattle.star_library.specs.declared.parameter_names.ParameterName.TheVariants as parameter
use Rattle.star_numbers.specs.Integers.{fitted, negated}
use Rattle.star_operators.specs.Outcomes.{Came, number_came}
use Rattle.star_operators.specs.declared.outcomes.Outcome.TheVariants.{Known, New}
use Rattle.star_print.specs.Prints.{Printed, repr_of, str_of}
use Rattle.star_sorting.specs.Sorting.{first_value, sorted_values}
use Rattle.star_sorting.specs.declared.comparing.Direction.{Direction}
use Rattle.star_sorting.specs.declared.comparing.Direction.TheVariants as direction

-- the absolute value of a number
abbrev pub absolute : ℤ → Result ℤ Fault
absolute number = if int_lt number (pos 0) then negated number else Ok number

abbrev pub absolute_came : Result ℤ Fault → Came
absolute_came (Ok number) = number_came (absolute number)
absolute_came (Err reason) = Err reason

-- a truth
abbrev pub truth : Bool → Came
truth flag = Ok (Known (val.Bool flag))

-- whether all items are true, or any is
abbrev pub all_came : HeapState → Result (List Val) Fault → Came
all_came heap (Ok items) = truth (list_all (is_true heap) items)
all_came heap (Err reason) = Err reason

abbrev pub any_came : HeapState → Result (List Val) Fault → Came
any_came heap (Ok items) = truth (list_any (is_true heap) items)
any_came heap (Err reason) = Err reason

-- whether a value is true, which none is not
abbrev pub truth_came : HeapState → Option Val → Came
truth_came heap None = truth false
truth_came heap (Some value) = truth (is_true heap value)

-- a base that may be left out
abbrev pub base_of : Option Val → Result ℤ Fault
base_of None = Ok (pos 10)
base_of (Some value) = integer value

-- the integer that a string spells
abbrev pub spelled_came : List ℕ → Result ℤ Fault → Came
spelled_came text (Ok base) = number_came (integer_of text base)
spelled_came text (Err reason) = Err reason

abbrev pub text_integer : Option (List ℕ) → Option Val → Came
text_integer None base = Err fault.Kind
text_integer (Some text) base = spelled_came text (base_of base)

-- a number that has no base
abbrev pub without_base : ℤ → Option Val → Came
without_base number None = Ok (Known (val.Int number))
without_base number (Some base) = Err fault.Kind

abbrev pub number_of_flag : Bool → ℤ
number_of_flag true = pos 1
number_of_flag false = pos 0

-- `int(x, base)`: of a string, a bool or an integer, of which a string alone has a base
unfoldable pub integer_came : HeapState → Val → Option Val → Came
integer_came heap val.None base = Err fault.Kind
integer_came heap (val.Bool flag) base = without_base (number_of_flag flag) base
integer_came heap (val.Int number) base = without_base number base
integer_came heap (val.Cell number) base =
    text_integer (text_in (cell_at heap (val.Cell number))) base

-- a length, which has 64 bits
abbrev pub length_came : ℕ → Came
length_came count = number_came (fitted (pos count))

-- the length of a cell: a string has so many characters
unfoldable pub cell_length : Option Cell → Came
cell_length (Some (cell.Text text)) = length_came (length (chars text))
cell_length (Some (cell.List items)) = length_came (length items)
cell_length (Some (cell.Tuple items)) = length_came (length items)
cell_length (Some (cell.Dict entries)) = length_came (length entries)
cell_length (Some (cell.Range first stop step)) = length_came (range_length first stop step)
cell_length _ = Err fault.Kind

-- a new list, tuple or text
abbrev pub list_came : Result (List Val) Fault → Came
list_came (Ok items) = Ok (New (cell.List items))
list_came (Err reason) = Err reason

abbrev pub tuple_came : Result (List Val) Fault → Came
tuple_came (Ok items) = Ok (New (cell.Tuple items))
tuple_came (Err reason) = Err reason

abbrev pub text_came : Printed → Came
text_came (Ok text) = Ok (New (cell.Text text))
text_came (Err reason) = Err reason

-- the items of an iterable that may be left out
abbrev pub items_or_none : HeapState → Option Val → Result (List Val) Fault
items_or_none heap None = Ok []
items_or_none heap (Some value) = items_of heap value

-- the items of an iterable from the last on
abbrev pub reversed_came : Result (List Val) Fault → Came
reversed_came (Ok items) = Ok (New (cell.List (reverse items)))
reversed_came (Err reason) = Err reason

-- `str(x)`: a string is its own
abbrev pub string_came : HeapState → Val → Option (List ℕ) → Came
string_came heap value None = text_came (str_of heap value)
string_came heap value (Some text) = Ok (Known value)

-- that there is no key, by which the caller would have to compare
abbrev pub without_key : Option Val → Result (Unit {0}) Fault
without_key None = Ok tt
without_key (Some key) = Err fault.Kind

-- the greatest comes first where an order is reversed
abbrev pub direction_of : Bool → Direction
direction_of true = direction.Descending
direction_of false = direction.Ascending

-- `sorted(x, key, reverse)`, where no key is given
abbrev pub sorted_by : HeapState → List Val → Result Bool Fault → Came
sorted_by heap items (Ok reverse) = list_came (sorted_values heap (direction_of reverse) items)
sorted_by heap items (Err reason) = Err reason

unfoldable pub sorted_came : HeapState → List (Option Val) → Came
sorted_came heap values =
    result_then (items_of heap (needed_at 0 values))
    (λ items. result_then (without_key (given_at 1 values))
    (λ done. sorted_by heap items (flag_or false (given_at 2 values))))

-- what a function that takes no more arguments than it has parameters comes to
unfoldable pub answer_of : LibraryFunction → HeapState → List (Option Val) → Came
answer_of function.Abs heap values = absolute_came (integer (needed_at 0 values))
answer_of function.All heap values = all_came heap (items_of heap (needed_at 0 values))
answer_of function.Any heap values = any_came heap (items_of heap (needed_at 0 values))
answer_of function.Bool heap values = truth_came heap (value_at 0 values)
answer_of function.Int heap values = integer_came heap (needed_at 0 values) (given_at 1 values)
answer_of function.Len heap values = cell_length (cell_at heap (needed_at 0 values))
answer_of function.List heap values = list_came (items_or_none heap (value_at 0 values))
answer_of function.Repr heap values = text_came (repr_of heap (needed_at 0 values))
answer_of function.Reversed heap values = reversed_came (items_of heap (needed_at 0 values))
answer_of function.Sorted heap values = sorted_came heap values
answer_of function.Str heap values =
    string_came heap (needed_at 0 values) (text_in (cell_at heap (needed_at 0 values)))
answer_of function.Tuple heap values = tuple_came (items_or_none heap (value_at 0 values))
answer_of function.Type heap values = text_came (Ok (type_name heap (needed_at 0 values)))
answer_of _ heap values = Err fault.Kind

-- the values among which the greatest or the least is: those of the one argument, or the arguments
abbrev pub compared : HeapState → List Val → Result (List Val) Fault
compared heap [] = Err fault.Value
compared heap (one ∷ []) = items_of heap one
compared heap (one ∷ other ∷ more) = Ok (one ∷ other ∷ more)

abbrev pub known : Result Val Fault → Came
known (Ok value) = Ok (Known value)
known (Err reason) = Err reason

-- `max(..)` and `min(..)`, where no key is given
unfoldable pub first_came : Direction → HeapState → List Val → Came
first_came way heap values =
    known (result_then (compared heap values) (first_value heap way))

abbrev pub unless_key : OneBound → Came → Came
unless_key (Ok key) came = result_then (without_key (given key)) (λ done. came)
unless_key (Err reason) came = Err reason

abbrev pub extreme_came : Direction → HeapState → Args → Came
extreme_came way heap args =
    unless_key (only_named parameter.Key args.named) (first_came way heap args.positional)

-- a separator that may be left out
abbrev pub is_text : Option (List ℕ) → Came
is_text None = Err fault.Kind
is_text (Some text) = Ok (Known val.None)

abbrev pub separated : HeapState → Option Val → Came
separated heap None = Ok (Known val.None)
separated heap (Some value) = is_text (text_in (cell_at heap value))

-- `print(..)`, which writes nothing
abbrev pub print_came : HeapState → OneBound → Came
print_came heap (Ok separator) = separated heap (given separator)
print_came heap (Err reason) = Err reason

-- what a function whose arguments bind to parameters comes to
abbrev pub bound_came : LibraryFunction → HeapState → Args → Came
bound_came called heap args =
    result_then (arguments_bound (parameters_of called) args) (answer_of called heap)

-- what a function comes to
unfoldable pub function_came : LibraryFunction → HeapState → Args → Came
function_came function.Max heap args = extreme_came direction.Descending heap args
function_came function.Min heap args = extreme_came direction.Ascending heap args
function_came function.Print heap args = print_came heap (only_named parameter.Sep args.named)
function_came function.Range heap args = range_came args
function_came called heap args = bound_came called heap args
