-- How the arguments of a directive bind: the Starlark specification, "Function and method calls".
-- No two arguments have one name; each parameter has at most one argument, a needed one has one;
-- and none is left over but where a directive takes further ones.
use Rattle.std.specs.Prelude.{ℕ, ◌+◌, Bool, true, false, not, ◌&&◌, ◌||◌, nat_lt, List, []}
use Rattle.std.specs.Prelude.{◌∷◌}
use Rattle.std.specs.Prelude.{length, drop, slice_get, Option, Some, None, bytes_eq}
use Rattle.std.specs.Prelude.{if◌then◌else◌}
use Rattle.std.specs.List.{list_all, list_any}
use Rattle.star_core.specs.declared.values.Args.{Args}
use Rattle.star_core.specs.declared.values.NamedVal.{NamedVal}
use Rattle.star_core.specs.declared.values.Val.{Val}
use Rattle.star_library.specs.declared.arguments.Ways.{Ways}
use Rattle.star_library.specs.declared.arguments.Ways.TheVariants as ways
use Rattle.module_arguments.specs.Directives.{name_text}
use Rattle.module_arguments.specs.declared.directives.Shape.{Shape}
use Rattle.module_arguments.specs.declared.parameters.Parameter.{Parameter}

-- the positional argument of a parameter, which one that is given by name alone hasn't
abbrev pub placed : Ways → Option Val → Option Val
placed ways.Either value = value
placed ways.Position value = value
placed ways.Name value = None

-- a parameter that may be given by name
abbrev pub takes_name : Ways → Bool
takes_name ways.Either = true
takes_name ways.Position = false
takes_name ways.Name = true

-- the first argument of a name
abbrev pub first_named : List ℕ → List NamedVal → Option Val
first_named name [] = None
first_named name (argument ∷ more) =
    if bytes_eq argument.name name then Some argument.val else first_named name more

-- the argument under the parameter's name
abbrev pub by_name : Parameter → List NamedVal → Option Val
by_name parameter named =
    if takes_name parameter.ways then first_named (name_text parameter.name) named else None

abbrev pub by_place : ℕ → Parameter → List Val → Option Val
by_place index parameter positional = placed parameter.ways (slice_get positional index)

-- at most one of the two is given, and one of them where it has to be
abbrev pub fits : Bool → Option Val → Option Val → Bool
fits needed (Some value) (Some other) = false
fits needed (Some value) None = true
fits needed None (Some value) = true
fits needed None None = not needed

-- each parameter fits, of which the first has this index
abbrev pub each_fits : ℕ → List Parameter → Args → Bool
each_fits index [] args = true
each_fits index (parameter ∷ more) args =
    fits parameter.needed (by_place index parameter args.positional) (by_name parameter args.named)
    && each_fits (index + 1) more args

-- no two arguments have one name
abbrev pub names_differ : List NamedVal → Bool
names_differ [] = true
names_differ (argument ∷ more) =
    not (list_any (λ other. bytes_eq other.name argument.name) more) && names_differ more

-- the name of one of the parameters
abbrev pub is_parameter : List Parameter → List ℕ → Bool
is_parameter parameters name =
    list_any (λ one. takes_name one.ways && bytes_eq (name_text one.name) name) parameters

-- none is left over
abbrev pub none_left : Shape → List Parameter → Args → Bool
none_left shape parameters args =
    (shape.more_positional || not (nat_lt shape.positional (length args.positional)))
    && (shape.more_named || list_all (λ one. is_parameter parameters one.name) args.named)

-- the arguments bind to the parameters
unfoldable pub binds : Shape → List Parameter → Args → Bool
binds shape parameters args =
    names_differ args.named
    && (none_left shape parameters args && each_fits 0 parameters args)

-- the one that is given
abbrev pub either : Option Val → Option Val → Option Val
either (Some value) other = Some value
either None other = other

-- the argument of the parameter with this index
abbrev pub argument_of : ℕ → Parameter → Args → Option Val
argument_of index parameter args =
    either (by_place index parameter args.positional) (by_name parameter args.named)

-- the further arguments by position
abbrev pub further : Shape → Args → List Val
further shape args = drop shape.positional args.positional
