-- The objects of a module file: its directives, what `use_extension` gives, and what
-- `use_repo_rule` gives. Each is a cell of the heap whose kind says what it is; a number says which
-- usage or which rule it stands for, and an extension's usage that doesn't count has none.
use Rattle.std.specs.Prelude.{ℕ, ℤ, pos, negsuc, List, [], ◌∷◌, Option, Some, None, option_map}
use Rattle.std.specs.Prelude.{codes}
use Rattle.std.specs.Prelude.{bytes_eq, if◌then◌else◌}
use Rattle.star_core.specs.declared.cells.Cell.{Cell}
use Rattle.star_core.specs.declared.cells.Cell.TheVariants as cell
use Rattle.star_core.specs.declared.values.NamedVal.{NamedVal}
use Rattle.star_core.specs.declared.values.Val.{Val}
use Rattle.star_core.specs.declared.values.Val.TheVariants as val
use Rattle.module_arguments.specs.Directives.{directive_of}
use Rattle.module_arguments.specs.declared.objects.Object.{Object}
use Rattle.module_arguments.specs.declared.objects.Object.TheVariants as object

-- the kinds of cells
abbrev pub proxy_kind : List ℕ
proxy_kind = codes "extension_proxy"

abbrev pub rule_kind : List ℕ
rule_kind = codes "repository_rule"

-- a number that is not negative
abbrev pub natural : ℤ → Option ℕ
natural (pos n) = Some n
natural (negsuc n) = None

abbrev pub number_of : Val → Option ℕ
number_of val.None = None
number_of (val.Bool flag) = None
number_of (val.Int number) = natural number
number_of (val.Cell number) = None

-- the number in the first field
abbrev pub number_in : List NamedVal → Option ℕ
number_in [] = None
number_in (field ∷ more) = number_of field.val

-- a cell of this kind
abbrev pub object_of : List ℕ → Option ℕ → Option Object
object_of kind number =
    if bytes_eq kind proxy_kind then Some (object.Proxy number)
    else (if bytes_eq kind rule_kind then Some (object.Rule number)
    else option_map object.Named (directive_of kind))

-- the object that a cell is
unfoldable pub object_in : Option Cell → Option Object
object_in None = None
object_in (Some (cell.Host kind fields)) = object_of kind (number_in fields)
object_in (Some (cell.Text text)) = None
object_in (Some (cell.List items)) = None
object_in (Some (cell.Tuple items)) = None
object_in (Some (cell.Dict entries)) = None
object_in (Some (cell.Range first stop step)) = None
object_in (Some (cell.Function function)) = None
object_in (Some (cell.Builtin name)) = None
object_in (Some (cell.Bound receiver method)) = None
object_in (Some (cell.Struct fields)) = None
object_in (Some (cell.Label label)) = None
object_in (Some (cell.Path repo segments)) = None
