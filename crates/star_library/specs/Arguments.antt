-- How a library call binds its arguments: the Starlark specification, "Function and method calls".
-- Each parameter has at most one argument, a needed one has one, and no argument is left over.
use Rattle.std.specs.Prelude.{ℕ, ◌+◌, ◌==◌, Bool, true, false, List, [], ◌∷◌, ◌++◌, length}
use Rattle.std.specs.Prelude.{slice_get, Option, Some, None, Result, Ok, Err, bytes_eq}
use Rattle.std.specs.Prelude.{if◌then◌else◌}
use Rattle.std.specs.Option.{option_to_list}
use Rattle.star_core.specs.declared.faults.Fault.{Fault}
use Rattle.star_core.specs.declared.faults.Fault.TheVariants as fault
use Rattle.star_core.specs.declared.values.Args.{Args}
use Rattle.star_core.specs.declared.values.NamedVal.{NamedVal}
use Rattle.star_core.specs.declared.values.Val.{Val}
use Rattle.star_library.specs.ParameterNames.{name_text}
use Rattle.star_library.specs.declared.arguments.Parameter.{Parameter}
use Rattle.star_library.specs.declared.arguments.Ways.{Ways}
use Rattle.star_library.specs.declared.parameter_names.ParameterName.{ParameterName}
use Rattle.star_library.specs.declared.arguments.Ways.TheVariants as ways

-- the value of a parameter, or none where it has no argument; or that the arguments don't bind
abbrev pub OneBound : Type 0
OneBound = Result (Option Val) Fault

-- one value or none for each parameter in order; or that the arguments don't bind
abbrev pub AllBound : Type 0
AllBound = Result (List (Option Val)) Fault

-- a parameter that has to be given, and one that may be left out, both by position or by name
abbrev pub needed : ParameterName → Parameter
needed name = record { name = name; needed = true; ways = ways.Either }

abbrev pub optional : ParameterName → Parameter
optional name = record { name = name; needed = false; ways = ways.Either }

-- the positional argument of a parameter, which one that is given by name alone hasn't
abbrev pub placed : Ways → Option Val → Option Val
placed ways.Either value = value
placed ways.Position value = value
placed ways.Name value = None

-- the arguments under a name
abbrev pub values_named : List ℕ → List NamedVal → List Val
values_named name [] = []
values_named name (argument ∷ more) =
    if bytes_eq name argument.name then argument.val ∷ values_named name more
    else values_named name more

-- the named arguments that may be those of a parameter: none where it is given by position alone
abbrev pub by_name : Ways → List NamedVal → List NamedVal
by_name ways.Either named = named
by_name ways.Position named = []
by_name ways.Name named = named

-- all arguments of the parameter with this index
abbrev pub arguments_of : ℕ → Parameter → Args → List Val
arguments_of index parameter args =
    option_to_list (placed parameter.ways (slice_get args.positional index))
    ++ values_named (name_text parameter.name) (by_name parameter.ways args.named)

-- at most one argument
abbrev pub at_most_one : List Val → OneBound
at_most_one [] = Ok None
at_most_one (value ∷ []) = Ok (Some value)
at_most_one (value ∷ other ∷ more) = Err fault.Arity

-- a value, or none so far, and a further one, where it is an argument of the parameter
abbrev pub and_argument : Option Val → Bool → Val → OneBound
and_argument found false value = Ok found
and_argument None true value = Ok (Some value)
and_argument (Some other) true value = Err fault.Arity

-- a needed parameter has a value
abbrev pub unless_needed : Bool → OneBound → OneBound
unless_needed true (Ok None) = Err fault.Arity
unless_needed true (Ok (Some value)) = Ok (Some value)
unless_needed true (Err reason) = Err reason
unless_needed false bound = bound

-- the value of the parameter with this index
unfoldable pub value_of : ℕ → Parameter → Args → OneBound
value_of index parameter args =
    unless_needed parameter.needed (at_most_one (arguments_of index parameter args))

-- one value in front of others
abbrev pub with_first : OneBound → AllBound → AllBound
with_first (Ok value) (Ok more) = Ok (value ∷ more)
with_first (Ok value) (Err reason) = Err reason
with_first (Err reason) more = Err reason

-- the values of parameters, of which the first has this index
abbrev pub each_value : ℕ → List Parameter → Args → AllBound
each_value index [] args = Ok []
each_value index (parameter ∷ more) args =
    with_first (value_of index parameter args) (each_value (index + 1) more args)

-- how many parameters have a value
abbrev pub given_count : List (Option Val) → ℕ
given_count [] = 0
given_count (None ∷ more) = given_count more
given_count (Some value ∷ more) = given_count more + 1

-- each of so many arguments is one of a parameter
abbrev pub unless_left_over : ℕ → AllBound → AllBound
unless_left_over count (Ok values) =
    if given_count values == count then Ok values else Err fault.Arity
unless_left_over count (Err reason) = Err reason

-- the values of parameters
unfoldable pub arguments_bound : List Parameter → Args → AllBound
arguments_bound parameters args =
    unless_left_over (length args.positional + length args.named) (each_value 0 parameters args)
