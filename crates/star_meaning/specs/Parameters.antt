-- How a function's parameters take arguments: the Starlark specification, "Functions". Arguments by
-- position go to the parameters in order, those by name to the parameter of that name; a parameter
-- without an argument has its default; `*` takes the other arguments by position in a tuple, and
-- `**` those by name in a dictionary. Each parameter has one value, and no argument is left over.
use Rattle.std.specs.Prelude.{ℕ, Bool, true, false, if◌then◌else◌, List, [], ◌∷◌, ◌++◌}
use Rattle.std.specs.Prelude.{Option, Some, None, Result, Ok, Err, bytes_eq}
use Rattle.std.specs.List.{list_any}
use Rattle.star_core.specs.Heaps.{Change, HeapState, literal_made, made}
use Rattle.star_core.specs.declared.cells.Cell.TheVariants as cell
use Rattle.star_core.specs.declared.faults.Fault.{Fault}
use Rattle.star_core.specs.declared.faults.Fault.TheVariants as fault
use Rattle.star_core.specs.declared.values.Args.{Args}
use Rattle.star_core.specs.declared.values.NamedVal.{NamedVal}
use Rattle.star_core.specs.declared.values.Val.{Val}
use Rattle.star_library.specs.Calls.{and_then, give_back, result_of}
use Rattle.star_meaning.specs.Arguments.{and_next}
use Rattle.star_meaning.specs.Libraries.{Rows}
use Rattle.star_meaning.specs.declared.arguments.Formal.{Formal}
use Rattle.star_meaning.specs.declared.arguments.Formal.TheVariants as formal
use Rattle.star_meaning.specs.declared.parameters.Share.{Share}
use Rattle.star_meaning.specs.declared.parameters.Share.TheVariants as share
use Rattle.star_trees.specs.declared.files.Param.{Param}
use Rattle.star_trees.specs.declared.files.Param.TheVariants as param
use Rattle.star_trees.specs.declared.trees.Expr.{Expr}

-- a parameter without its default
abbrev pub formal_of : Param → Formal
formal_of (param.Required name) = formal.Required name
formal_of (param.Optional name default) = formal.Optional name
formal_of param.Bare = formal.Bare
formal_of (param.Rest name) = formal.Rest name
formal_of (param.Keywords name) = formal.Keywords name

-- the defaults of parameters, in order
abbrev pub defaults_of : List Param → List Expr
defaults_of [] = []
defaults_of (param.Required name ∷ params) = defaults_of params
defaults_of (param.Optional name default ∷ params) = default ∷ defaults_of params
defaults_of (param.Bare ∷ params) = defaults_of params
defaults_of (param.Rest name ∷ params) = defaults_of params
defaults_of (param.Keywords name ∷ params) = defaults_of params

-- the name under which an argument may be given to a parameter
abbrev pub is_called : List ℕ → Formal → Bool
is_called name (formal.Required other) = bytes_eq other name
is_called name (formal.Optional other) = bytes_eq other name
is_called name formal.Bare = false
is_called name (formal.Rest other) = false
is_called name (formal.Keywords other) = false

-- whether a parameter takes an argument with this name
abbrev pub is_taken : List Formal → NamedVal → Bool
is_taken formals argument = list_any (is_called argument.name) formals

abbrev pub other_behind : List Formal → List NamedVal → NamedVal → List NamedVal
other_behind formals others argument =
    if is_taken formals argument then others else others ++ argument ∷ []

-- the arguments by name that are no parameter's, behind others
abbrev pub others_behind : List Formal → List NamedVal → List NamedVal → List NamedVal
others_behind formals others [] = others
others_behind formals others (first ∷ named) =
    others_behind formals (other_behind formals others first) named

abbrev pub others_named : List Formal → List NamedVal → List NamedVal
others_named formals = others_behind formals []

-- the argument under a name
abbrev pub named_value : List ℕ → List NamedVal → Option Val
named_value name [] = None
named_value name (first ∷ named) =
    if bytes_eq first.name name then Some first.val else named_value name named

-- one value at most, by position or by name, or else a default
abbrev pub one_value : Option Val → Option Val → Option Val → Result Val Fault
one_value (Some placed) (Some value) default = Err fault.Arity
one_value (Some placed) None default = Ok placed
one_value None (Some value) default = Ok value
one_value None None (Some default) = Ok default
one_value None None None = Err fault.Arity

abbrev pub first_of : {A : Type 0} → List A → Option A
first_of [] = None
first_of (first ∷ more) = Some first

abbrev pub behind_first : {A : Type 0} → List A → List A
behind_first [] = []
behind_first (first ∷ more) = more

-- the first argument by position that is left, for a parameter that isn't behind a `*`
abbrev pub placed_first : Bool → List Val → Option Val
placed_first true positional = first_of positional
placed_first false positional = None

abbrev pub placed_behind : Bool → List Val → List Val
placed_behind true positional = behind_first positional
placed_behind false positional = positional

abbrev pub behind : List Share → Share → List Share
behind shares more = shares ++ more ∷ []

-- no argument by position is left over
abbrev pub none_left : List Share → List Val → Result (List Share) Fault
none_left shares [] = Ok shares
none_left shares (value ∷ positional) = Err fault.Arity

-- What parameters take, behind what those before them take. The first may take a position, or
-- stands behind a `*`; there are arguments by position and defaults that are left.
abbrev pub shares_behind : (all : List Formal)
    → (named : List NamedVal)
    → List Share
    → Bool
    → List Formal
    → List Val
    → List Val
    → Result (List Share) Fault
shares_behind all named shares placing [] positional defaults = none_left shares positional
shares_behind all named shares placing (formal.Required name ∷ formals) positional defaults =
    and_next (one_value (placed_first placing positional) (named_value name named) None)
    (λ value. shares_behind all named (behind shares (share.Holds value)) placing formals
    (placed_behind placing positional) defaults)
shares_behind all named shares placing (formal.Optional name ∷ formals) positional defaults =
    and_next (one_value (placed_first placing positional) (named_value name named)
    (first_of defaults))
    (λ value. shares_behind all named (behind shares (share.Holds value)) placing formals
    (placed_behind placing positional) (behind_first defaults))
shares_behind all named shares placing (formal.Bare ∷ formals) positional defaults =
    shares_behind all named shares false formals positional defaults
shares_behind all named shares placing (formal.Rest name ∷ formals) positional defaults =
    shares_behind all named (behind shares (share.Others positional)) false formals [] defaults
shares_behind all named shares placing (formal.Keywords name ∷ formals) positional defaults =
    shares_behind all named (behind shares (share.Names (others_named all named))) placing formals
    positional defaults

abbrev pub takes_names : Formal → Bool
takes_names (formal.Required name) = false
takes_names (formal.Optional name) = false
takes_names formal.Bare = false
takes_names (formal.Rest name) = false
takes_names (formal.Keywords name) = true

-- whether each argument by name is a parameter's
abbrev pub all_taken : List Formal → List NamedVal → Bool
all_taken formals [] = true
all_taken formals (first ∷ named) =
    if is_taken formals first then all_taken formals named else false

-- whether no argument by name is left over
abbrev pub names_fit : List Formal → List NamedVal → Bool
names_fit formals named =
    if list_any takes_names formals then true else all_taken formals named

-- what each parameter takes
unfoldable pub shares_of : List Formal → List Val → Args → Result (List Share) Fault
shares_of formals defaults args =
    if names_fit formals args.named
    then shares_behind formals args.named [] true formals args.positional defaults
    else Err fault.Arity

-- a dictionary with arguments by name as its entries; the text of a name costs nothing
abbrev pub entry_put : Rows → Val → NamedVal → HeapState → Change (Unit {0})
entry_put library dict one =
    and_then (literal_made one.name) (λ key. library.set_index dict key one.val)

abbrev pub entries_put : Rows → Val → List NamedVal → HeapState → Change (Unit {0})
entries_put library dict [] = give_back tt
entries_put library dict (first ∷ named) =
    and_then (entry_put library dict first) (λ _. entries_put library dict named)

unfoldable pub keywords_made : Rows → List NamedVal → HeapState → Change Val
keywords_made library named =
    and_then (made (cell.Dict [])) (λ dict.
    and_then (entries_put library dict named) (λ _. give_back dict))

-- the value of a parameter
unfoldable pub share_made : Rows → Share → HeapState → Change Val
share_made library (share.Holds value) = give_back value
share_made library (share.Others values) = made (cell.Tuple values)
share_made library (share.Names named) = keywords_made library named

-- the values of parameters, behind those of the parameters before them
abbrev pub shares_made : Rows → List Val → List Share → HeapState → Change (List Val)
shares_made library values [] = give_back values
shares_made library values (first ∷ shares) =
    and_then (share_made library first) (λ value.
    shares_made library (values ++ value ∷ []) shares)

-- the values of a function's parameters, which are its first variables
unfoldable pub bound : Rows → List Formal → List Val → Args → HeapState → Change (List Val)
bound library formals defaults args =
    and_then (result_of (shares_of formals defaults args)) (shares_made library [])
