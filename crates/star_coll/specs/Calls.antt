-- The calls of the library on containers, as one table: functions, and methods of lists and of
-- dictionaries. The Starlark specification, "Built-in constants and functions" and "Built-in
-- methods".
use Rattle.std.specs.Prelude.{ℕ, List, option_map, Option, Some, None, Err}
use Rattle.star_core.specs.Heaps.{Change, HeapState, cell_at}
use Rattle.star_core.specs.declared.cells.Cell.{Cell}
use Rattle.star_core.specs.declared.cells.Cell.TheVariants as cell
use Rattle.star_core.specs.declared.faults.Fault.TheVariants as fault
use Rattle.star_core.specs.declared.values.Args.{Args}
use Rattle.star_core.specs.declared.values.Val.{Val}
use Rattle.star_dicts.specs.MethodNames as dicts
use Rattle.star_dicts.specs.Rows.{dict_row}
use Rattle.star_functions.specs.FunctionNames.{function_of}
use Rattle.star_functions.specs.Rows.{function_row}
use Rattle.star_lists.specs.MethodNames as lists
use Rattle.star_lists.specs.Rows.{list_row}
use Rattle.star_coll.specs.declared.calls.CollFn.{CollFn}
use Rattle.star_coll.specs.declared.calls.CollFn.TheVariants as coll

-- a function by its name
abbrev pub function_named : List ℕ → Option CollFn
function_named name = option_map coll.Function (function_of name)

-- a method by its name, of a cell that has it
unfoldable pub method_in : Option Cell → List ℕ → Option CollFn
method_in (Some (cell.List items)) name = option_map coll.List (lists.method_of name)
method_in (Some (cell.Dict entries)) name = option_map coll.Dict (dicts.method_of name)
method_in _ name = None

abbrev pub method_named : HeapState → Val → List ℕ → Option CollFn
method_named heap receiver name = method_in (cell_at heap receiver) name

-- the row of a call: a method has a receiver, and a function doesn't look at one
unfoldable pub coll_row : CollFn → Option Val → Args → HeapState → Change Val
coll_row (coll.Function called) receiver args heap = function_row called args heap
coll_row (coll.List method) (Some list) args heap = list_row method list args heap
coll_row (coll.List method) None args heap = Err fault.Kind
coll_row (coll.Dict method) (Some dict) args heap = dict_row method dict args heap
coll_row (coll.Dict method) None args heap = Err fault.Kind
