-- The rows of the functions: what a function comes to is made in the heap; `dict`, `enumerate` and
-- `zip` make more than one cell.
use Rattle.std.specs.Prelude.{ℕ, pos, List, Option, Result, Ok, Err}
use Rattle.star_calls.specs.Values.{given_at, integer_or, needed_at}
use Rattle.star_core.specs.Heaps.{Change, HeapState}
use Rattle.star_core.specs.declared.values.Args.{Args}
use Rattle.star_core.specs.declared.values.Val.{Val}
use Rattle.star_dicts.specs.Rows.{new_dict_row}
use Rattle.star_functions.specs.Answers.{function_came}
use Rattle.star_functions.specs.FunctionNames.{parameters_of}
use Rattle.star_functions.specs.Sequences.{enumerated, zip_row}
use Rattle.star_functions.specs.declared.functions.LibraryFunction.{LibraryFunction}
use Rattle.star_functions.specs.declared.functions.LibraryFunction.TheVariants as function
use Rattle.star_library.specs.Arguments.{arguments_bound}
use Rattle.star_library.specs.Calls.{go_on, result_of}
use Rattle.star_library.specs.Kinds.{items_of}
use Rattle.star_operators.specs.Outcomes.{finished}

-- `enumerate` with the values of its parameters
unfoldable pub enumerate_called : List (Option Val) → HeapState → Change Val
enumerate_called values heap =
    enumerated (integer_or (pos 0) (given_at 1 values)) (items_of heap (needed_at 0 values)) heap

abbrev pub enumerate_row : Args → HeapState → Change Val
enumerate_row args heap =
    go_on (result_of (arguments_bound (parameters_of function.Enumerate) args) heap)
    enumerate_called

-- the row of a function
unfoldable pub function_row : LibraryFunction → Args → HeapState → Change Val
function_row function.Dict args heap = new_dict_row args heap
function_row function.Enumerate args heap = enumerate_row args heap
function_row function.Zip args heap = zip_row args heap
function_row called args heap = finished (function_came called heap args) heap
