-- Which row of the library a call is, and which calls call back. The Starlark specification,
-- "Built-in constants and functions" and "Built-in methods".
use Rattle.std.specs.Prelude.{ℕ, ◌||◌, ◌&&◌, Bool, true, false, List, Option, Some, None}
use Rattle.std.specs.Prelude.{Err, bytes_eq, codes, if◌then◌else◌, slice_get}
use Rattle.std.specs.List.{list_any}
use Rattle.star_coll.specs.Calls.{coll_row, function_named, method_in}
use Rattle.star_coll.specs.declared.calls.CollFn.{CollFn}
use Rattle.star_core.specs.Heaps.{Change, HeapState, cell_at}
use Rattle.star_core.specs.declared.cells.Cell.{Cell}
use Rattle.star_core.specs.declared.cells.Cell.TheVariants as cell
use Rattle.star_core.specs.declared.faults.Fault.TheVariants as fault
use Rattle.star_core.specs.declared.values.Args.{Args}
use Rattle.star_core.specs.declared.values.NamedVal.{NamedVal}
use Rattle.star_core.specs.declared.values.Val.{Val}
use Rattle.star_core.specs.declared.values.Val.TheVariants as val
use Rattle.star_format.specs.Formats.{format_row}
use Rattle.star_standard.specs.declared.calls.Called.{Called}
use Rattle.star_standard.specs.declared.calls.Called.TheVariants as called
use Rattle.star_text.specs.MethodNames.{method_of}
use Rattle.star_text.specs.Rows.{text_row}
use Rattle.star_text.specs.declared.methods.TextMethod.{TextMethod}

abbrev pub text_method : Option TextMethod → Val → Called
text_method None receiver = called.Nothing
text_method (Some method) receiver = called.Text method receiver

-- `format` is a call of its own
abbrev pub text_called : List ℕ → Val → Called
text_called name receiver =
    if bytes_eq name (codes "format") then called.Format receiver
    else text_method (method_of name) receiver

abbrev pub container_called : Option CollFn → Val → Called
container_called None receiver = called.Nothing
container_called (Some method) receiver = called.Method method receiver

abbrev pub function_called : Option CollFn → Called
function_called None = called.Nothing
function_called (Some function) = called.Function function

-- the method of a name that a receiver has
unfoldable pub method_called : Option Cell → List ℕ → Val → Called
method_called (Some (cell.Text text)) name receiver = text_called name receiver
method_called held name receiver = container_called (method_in held name) receiver

-- what a call of a value calls
unfoldable pub called_in : HeapState → Option Cell → Called
called_in heap (Some (cell.Builtin name)) = function_called (function_named name)
called_in heap (Some (cell.Bound receiver name)) =
    method_called (cell_at heap receiver) name receiver
called_in heap held = called.Nothing

-- the row of what is called
unfoldable pub row_of : Called → Args → HeapState → Change Val
row_of (called.Function function) args heap = coll_row function None args heap
row_of (called.Method method receiver) args heap = coll_row method (Some receiver) args heap
row_of (called.Text method receiver) args heap = text_row method receiver args heap
row_of (called.Format receiver) args heap = format_row receiver args heap
row_of called.Nothing args heap = Err fault.Kind

abbrev pub call_row : Val → Args → HeapState → Change Val
call_row f args heap = row_of (called_in heap (cell_at heap f)) args heap

-- `fail` ends the evaluation, and `getattr` and `hasattr` may ask the host
abbrev pub needs_evaluation : List ℕ → Bool
needs_evaluation name =
    bytes_eq name (codes "fail")
    || (bytes_eq name (codes "getattr") || bytes_eq name (codes "hasattr"))

abbrev pub is_given : Val → Bool
is_given val.None = false
is_given (val.Bool flag) = true
is_given (val.Int number) = true
is_given (val.Cell number) = true

abbrev pub some_given : Option Val → Bool
some_given None = false
some_given (Some value) = is_given value

-- an argument under the name `key`
abbrev pub is_named_key : NamedVal → Bool
is_named_key argument = bytes_eq argument.name (codes "key") && some_given (Some argument.val)

-- a key in a place where there may be one, or under its name
abbrev pub has_key : Option Val → Args → Bool
has_key placed args = some_given placed || list_any is_named_key args.named

-- a call with a key, which is called for each item
abbrev pub has_called_key : List ℕ → Args → Bool
has_called_key name args =
    if bytes_eq name (codes "sorted") then has_key (slice_get args.positional 1) args
    else (if bytes_eq name (codes "max") || bytes_eq name (codes "min") then has_key None args
    else false)

abbrev pub name_calls_back : List ℕ → Args → Bool
name_calls_back name args = needs_evaluation name || has_called_key name args

unfoldable pub calls_back_in : Option Cell → Args → Bool
calls_back_in (Some (cell.Builtin name)) args = name_calls_back name args
calls_back_in held args = false

-- whether a call calls back or asks the host
abbrev pub calls_back_of : Val → Args → HeapState → Bool
calls_back_of f args heap = calls_back_in (cell_at heap f) args
