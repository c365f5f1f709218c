-- The functions of the library by their names, and their parameters: the Starlark specification,
-- "Built-in constants and functions". `fail`, `getattr` and `hasattr` aren't here: they need more
-- than a heap.
use Rattle.std.specs.Prelude.{ℕ, List, [], ◌∷◌, codes, Option, Some, None, bytes_eq}
use Rattle.std.specs.Prelude.{if◌then◌else◌}
use Rattle.star_library.specs.Arguments.{needed, optional}
use Rattle.star_library.specs.declared.arguments.Parameter.{Parameter}
use Rattle.star_library.specs.declared.parameter_names.ParameterName.TheVariants as parameter
use Rattle.star_functions.specs.declared.functions.LibraryFunction.{LibraryFunction}
use Rattle.star_functions.specs.declared.functions.LibraryFunction.TheVariants as function

-- the name under which a function is called
unfoldable pub function_name : LibraryFunction → List ℕ
function_name function.Abs = codes "abs"
function_name function.All = codes "all"
function_name function.Any = codes "any"
function_name function.Bool = codes "bool"
function_name function.Dict = codes "dict"
function_name function.Enumerate = codes "enumerate"
function_name function.Int = codes "int"
function_name function.Len = codes "len"
function_name function.List = codes "list"
function_name function.Max = codes "max"
function_name function.Min = codes "min"
function_name function.Print = codes "print"
function_name function.Range = codes "range"
function_name function.Repr = codes "repr"
function_name function.Reversed = codes "reversed"
function_name function.Sorted = codes "sorted"
function_name function.Str = codes "str"
function_name function.Tuple = codes "tuple"
function_name function.Type = codes "type"
function_name function.Zip = codes "zip"

unfoldable pub all_functions : List LibraryFunction
all_functions =
    function.Abs ∷ function.All ∷ function.Any ∷ function.Bool ∷ function.Dict
    ∷ function.Enumerate ∷ function.Int ∷ function.Len ∷ function.List ∷ function.Max
    ∷ function.Min ∷ function.Print ∷ function.Range ∷ function.Repr ∷ function.Reversed
    ∷ function.Sorted ∷ function.Str ∷ function.Tuple ∷ function.Type ∷ function.Zip ∷ []

-- the function of a name among others
abbrev pub function_among : List LibraryFunction → List ℕ → Option LibraryFunction
function_among [] name = None
function_among (one ∷ more) name =
    if bytes_eq (function_name one) name then Some one else function_among more name

abbrev pub function_of : List ℕ → Option LibraryFunction
function_of name = function_among all_functions name

-- the parameters of a function: those that take any number of arguments read them elsewhere
unfoldable pub parameters_of : LibraryFunction → List Parameter
parameters_of function.Abs = needed parameter.X ∷ []
parameters_of function.All = needed parameter.Elements ∷ []
parameters_of function.Any = needed parameter.Elements ∷ []
parameters_of function.Bool = optional parameter.X ∷ []
parameters_of function.Dict = []
parameters_of function.Enumerate = needed parameter.List ∷ optional parameter.Start ∷ []
parameters_of function.Int = needed parameter.X ∷ optional parameter.Base ∷ []
parameters_of function.Len = needed parameter.X ∷ []
parameters_of function.List = optional parameter.X ∷ []
parameters_of function.Max = []
parameters_of function.Min = []
parameters_of function.Print = []
parameters_of function.Range = []
parameters_of function.Repr = needed parameter.X ∷ []
parameters_of function.Reversed = needed parameter.Sequence ∷ []
parameters_of function.Sorted =
    needed parameter.X ∷ optional parameter.Key ∷ optional parameter.Reverse ∷ []
parameters_of function.Str = needed parameter.X ∷ []
parameters_of function.Tuple = optional parameter.X ∷ []
parameters_of function.Type = needed parameter.X ∷ []
parameters_of function.Zip = []
