-- Where an attribute of a value comes from, and what a call of a value calls: the Starlark
-- specification, "Dot expressions" and "Call expressions".
use Rattle.std.specs.Prelude.{ℕ, Bool, true, false, List, [], ◌∷◌, Option, Some, None, bytes_eq}
use Rattle.std.specs.Prelude.{if◌then◌else◌}
use Rattle.star_core.specs.Heaps.{HeapState, cell_at}
use Rattle.star_core.specs.LibraryNames.{has_method}
use Rattle.star_core.specs.declared.cells.Cell.{Cell}
use Rattle.star_core.specs.declared.cells.Cell.TheVariants as cell
use Rattle.star_core.specs.declared.cells.Function.{Function}
use Rattle.star_core.specs.declared.values.NamedVal.{NamedVal}
use Rattle.star_core.specs.declared.values.Val.{Val}
use Rattle.star_core.specs.declared.values.Val.TheVariants as val
use Rattle.star_meaning.specs.declared.reasons.Attribute.{Attribute}
use Rattle.star_meaning.specs.declared.reasons.Attribute.TheVariants as attribute
use Rattle.star_meaning.specs.declared.reasons.Closure.{Closure}

-- the value under a name
abbrev pub field_of : List ℕ → List NamedVal → Attribute
field_of name [] = attribute.Missing
field_of name (field ∷ fields) =
    if bytes_eq field.name name then attribute.Lies field.val else field_of name fields

abbrev pub method_if : Bool → Attribute
method_if true = attribute.IsMethod
method_if false = attribute.Missing

-- the attribute of a cell with a number: an object of the host and a path answer for themselves
abbrev pub attribute_in : ℕ → Option Cell → List ℕ → Attribute
attribute_in number (Some (cell.Host kind fields)) name = attribute.Hosted number
attribute_in number (Some (cell.Path repo segments)) name = attribute.Hosted number
attribute_in number (Some (cell.Struct fields)) name = field_of name fields
attribute_in number (Some (cell.Text text)) name = method_if (has_method (Some (cell.Text text)) name)
attribute_in number (Some (cell.List items)) name = method_if (has_method (Some (cell.List items)) name)
attribute_in number (Some (cell.Dict entries)) name =
    method_if (has_method (Some (cell.Dict entries)) name)
attribute_in number (Some (cell.Tuple items)) name = attribute.Missing
attribute_in number (Some (cell.Range first stop step)) name = attribute.Missing
attribute_in number (Some (cell.Function function)) name = attribute.Missing
attribute_in number (Some (cell.Builtin builtin)) name = attribute.Missing
attribute_in number (Some (cell.Bound receiver method)) name = attribute.Missing
attribute_in number (Some (cell.Label label)) name = attribute.Missing
attribute_in number None name = attribute.Missing

-- the attribute of a value
unfoldable pub attribute_of : HeapState → Val → List ℕ → Attribute
attribute_of heap val.None name = attribute.Missing
attribute_of heap (val.Bool flag) name = attribute.Missing
attribute_of heap (val.Int number) name = attribute.Missing
attribute_of heap (val.Cell number) name = attribute_in number (cell_at heap (val.Cell number)) name

-- the closure of a function's cell
abbrev pub closure_of : Function → Closure
closure_of function =
    record { file = function.file; function = function.function; around = function.around }

-- what a call of a value calls: a function that a file defines, with its defaults; a method of a
-- host's object, or, with no name, the object itself; a function or a method of the library; or
-- nothing
pub data Callee : Type 0 where
  Defined : Closure → (defaults : List Val) → Callee
  OfHost : (object : ℕ) (method : List ℕ) → Callee
  OfLibrary : Callee
  Nothing : Callee

-- a method of a cell with a number
abbrev pub method_in : ℕ → Option Cell → List ℕ → Callee
method_in number (Some (cell.Host kind fields)) method = OfHost number method
method_in number (Some (cell.Path repo segments)) method = OfHost number method
method_in number (Some (cell.Struct fields)) method = OfLibrary
method_in number (Some (cell.Text text)) method = OfLibrary
method_in number (Some (cell.List items)) method = OfLibrary
method_in number (Some (cell.Dict entries)) method = OfLibrary
method_in number (Some (cell.Tuple items)) method = OfLibrary
method_in number (Some (cell.Range first stop step)) method = OfLibrary
method_in number (Some (cell.Function function)) method = OfLibrary
method_in number (Some (cell.Builtin builtin)) method = OfLibrary
method_in number (Some (cell.Bound receiver bound)) method = OfLibrary
method_in number (Some (cell.Label label)) method = OfLibrary
method_in number None method = OfLibrary

abbrev pub method_of : HeapState → Val → List ℕ → Callee
method_of heap val.None method = OfLibrary
method_of heap (val.Bool flag) method = OfLibrary
method_of heap (val.Int number) method = OfLibrary
method_of heap (val.Cell number) method = method_in number (cell_at heap (val.Cell number)) method

abbrev pub callee_in : HeapState → ℕ → Option Cell → Callee
callee_in heap number (Some (cell.Function function)) =
    Defined (closure_of function) function.defaults
callee_in heap number (Some (cell.Host kind fields)) = OfHost number []
callee_in heap number (Some (cell.Bound receiver method)) = method_of heap receiver method
callee_in heap number (Some (cell.Builtin name)) = OfLibrary
callee_in heap number (Some (cell.Path repo segments)) = Nothing
callee_in heap number (Some (cell.Struct fields)) = Nothing
callee_in heap number (Some (cell.Text text)) = Nothing
callee_in heap number (Some (cell.List items)) = Nothing
callee_in heap number (Some (cell.Dict entries)) = Nothing
callee_in heap number (Some (cell.Tuple items)) = Nothing
callee_in heap number (Some (cell.Range first stop step)) = Nothing
callee_in heap number (Some (cell.Label label)) = Nothing
callee_in heap number None = Nothing

-- what a call of this value calls
unfoldable pub callee_of : HeapState → Val → Callee
callee_of heap val.None = Nothing
callee_of heap (val.Bool flag) = Nothing
callee_of heap (val.Int number) = Nothing
callee_of heap (val.Cell number) = callee_in heap number (cell_at heap (val.Cell number))

-- the closure that is called, where a file defines it
abbrev pub closure_called : Callee → Option Closure
closure_called (Defined closure defaults) = Some closure
closure_called (OfHost object method) = None
closure_called OfLibrary = None
closure_called Nothing = None

-- and its defaults
abbrev pub defaults_called : Callee → List Val
defaults_called (Defined closure defaults) = defaults
defaults_called (OfHost object method) = []
defaults_called OfLibrary = []
defaults_called Nothing = []

abbrev pub calls_library : Callee → Bool
calls_library (Defined closure defaults) = false
calls_library (OfHost object method) = false
calls_library OfLibrary = true
calls_library Nothing = false

-- whether a cell is an object of the host, or a path, which answer for themselves
abbrev pub is_hosted_cell : Option Cell → Bool
is_hosted_cell (Some (cell.Host kind fields)) = true
is_hosted_cell (Some (cell.Path repo segments)) = true
is_hosted_cell (Some (cell.Struct fields)) = false
is_hosted_cell (Some (cell.Text text)) = false
is_hosted_cell (Some (cell.List items)) = false
is_hosted_cell (Some (cell.Dict entries)) = false
is_hosted_cell (Some (cell.Tuple items)) = false
is_hosted_cell (Some (cell.Range first stop step)) = false
is_hosted_cell (Some (cell.Function function)) = false
is_hosted_cell (Some (cell.Builtin builtin)) = false
is_hosted_cell (Some (cell.Bound receiver method)) = false
is_hosted_cell (Some (cell.Label label)) = false
is_hosted_cell None = false

abbrev pub is_hosted : HeapState → Val → Bool
is_hosted heap value = is_hosted_cell (cell_at heap value)
