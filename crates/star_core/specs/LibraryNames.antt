-- The names of the library: its functions, and the methods of each type. The Starlark
-- specification, "Built-in constants and functions" and "Built-in methods".
use Rattle.std.specs.Prelude.{ℕ, Bool, true, false, bytes_eq, codes, List, [], ◌∷◌, Option}
use Rattle.std.specs.Prelude.{Some, None}
use Rattle.std.specs.List.{list_any}
use Rattle.star_core.specs.declared.cells.Cell.{Cell}
use Rattle.star_core.specs.declared.cells.Cell.TheVariants as cell

abbrev pub is_among : List ℕ → List (List ℕ) → Bool
is_among name names = list_any (λ other. bytes_eq other name) names

unfoldable pub function_names : List (List ℕ)
function_names =
    codes "abs" ∷ codes "all" ∷ codes "any" ∷ codes "bool" ∷ codes "dict" ∷ codes "enumerate"
    ∷ codes "fail" ∷ codes "getattr" ∷ codes "hasattr" ∷ codes "int" ∷ codes "len" ∷ codes "list"
    ∷ codes "max" ∷ codes "min" ∷ codes "print" ∷ codes "range" ∷ codes "repr" ∷ codes "reversed"
    ∷ codes "sorted" ∷ codes "str" ∷ codes "tuple" ∷ codes "type" ∷ codes "zip" ∷ []

unfoldable pub text_methods : List (List ℕ)
text_methods =
    codes "capitalize" ∷ codes "count" ∷ codes "elems" ∷ codes "endswith" ∷ codes "find"
    ∷ codes "format" ∷ codes "index" ∷ codes "isalnum" ∷ codes "isalpha" ∷ codes "isdigit"
    ∷ codes "islower" ∷ codes "isspace" ∷ codes "istitle" ∷ codes "isupper" ∷ codes "join"
    ∷ codes "lower" ∷ codes "lstrip" ∷ codes "partition" ∷ codes "removeprefix"
    ∷ codes "removesuffix" ∷ codes "replace" ∷ codes "rfind" ∷ codes "rindex"
    ∷ codes "rpartition" ∷ codes "rsplit" ∷ codes "rstrip" ∷ codes "split"
    ∷ codes "splitlines" ∷ codes "startswith" ∷ codes "strip" ∷ codes "title"
    ∷ codes "upper" ∷ []

unfoldable pub list_methods : List (List ℕ)
list_methods =
    codes "append" ∷ codes "clear" ∷ codes "extend" ∷ codes "index" ∷ codes "insert"
    ∷ codes "pop" ∷ codes "remove" ∷ []

unfoldable pub dict_methods : List (List ℕ)
dict_methods =
    codes "clear" ∷ codes "get" ∷ codes "items" ∷ codes "keys" ∷ codes "pop"
    ∷ codes "popitem" ∷ codes "setdefault" ∷ codes "update" ∷ codes "values" ∷ []

-- a method of the library that a cell's type has; a host says itself which methods its objects have
abbrev pub has_method : Option Cell → List ℕ → Bool
has_method (Some (cell.Text text)) name = is_among name text_methods
has_method (Some (cell.List items)) name = is_among name list_methods
has_method (Some (cell.Dict entries)) name = is_among name dict_methods
has_method (Some (cell.Host kind fields)) name = true
has_method (Some (cell.Tuple items)) name = false
has_method (Some (cell.Range first stop step)) name = false
has_method (Some (cell.Function function)) name = false
has_method (Some (cell.Builtin builtin)) name = false
has_method (Some (cell.Bound receiver method)) name = false
has_method (Some (cell.Struct fields)) name = false
has_method (Some (cell.Label label)) name = false
has_method (Some (cell.Path repo segments)) name = true
has_method None name = false
