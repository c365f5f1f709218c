-- The arguments of a call: the Starlark specification, "Function and method calls". An argument is
-- given by position or by name, or an operand spreads into several.
use Rattle.std.specs.Prelude.{ℕ, Bool, true, false, if◌then◌else◌, List, [], ◌∷◌, ◌++◌, map, Option}
use Rattle.std.specs.Prelude.{Some, None, Result, Ok, Err, bytes_eq}
use Rattle.std.specs.List.{list_any}
use Rattle.star_core.specs.Contents.{text_in}
use Rattle.star_core.specs.Heaps.{HeapState, cell_at}
use Rattle.star_core.specs.declared.cells.Cell.{Cell}
use Rattle.star_core.specs.declared.cells.Cell.TheVariants as cell
use Rattle.star_core.specs.declared.dict.Pair.{Pair}
use Rattle.star_core.specs.declared.faults.Fault.{Fault}
use Rattle.star_core.specs.declared.faults.Fault.TheVariants as fault
use Rattle.star_core.specs.declared.values.Args.{Args}
use Rattle.star_core.specs.declared.values.NamedVal.{NamedVal}
use Rattle.star_core.specs.declared.values.Val.{Val}
use Rattle.star_library.specs.Kinds.{items_of}
use Rattle.star_meaning.specs.declared.arguments.Way.{Way}
use Rattle.star_meaning.specs.declared.arguments.Way.TheVariants as way
use Rattle.star_trees.specs.Folds.{ExprValues, fold_arg}
use Rattle.star_trees.specs.declared.trees.Arg.TheOpen.{Arg-F}
use Rattle.star_trees.specs.declared.trees.Arg.{Arg}

-- arguments by position alone
abbrev pub by_position : List Val → Args
by_position values = record { positional = values; named = [] }

-- arguments by name alone
abbrev pub by_names : List NamedVal → Args
by_names named = record { positional = []; named = named }

abbrev pub no_args : Args
no_args = by_position []

abbrev pub way_step : Arg-F Way (Unit {0}) (Unit {0}) (Unit {0}) (Unit {0}) → Way
way_step (Arg-F.Positional value) = way.Positional
way_step (Arg-F.Named name value) = way.Named name
way_step (Arg-F.Star value) = way.Star
way_step (Arg-F.DoubleStar value) = way.DoubleStar

abbrev pub way_values : ExprValues Way (Unit {0}) (Unit {0}) (Unit {0}) (Unit {0})
way_values =
    record {
      arg = way_step;
      clause = λ clause. tt;
      expr = λ expr. tt;
      target = λ target. tt;
      pair = λ pair. tt;
    }

-- how an argument is given
abbrev pub way_of : Arg → Way
way_of = fold_arg way_values

abbrev pub is_plain : Way → Bool
is_plain way.Positional = true
is_plain (way.Named name) = false
is_plain way.Star = false
is_plain way.DoubleStar = false

-- whether each argument is given by its position
unfoldable pub all_plain : List Way → Bool
all_plain [] = true
all_plain (first ∷ ways) = if is_plain first then all_plain ways else false

-- what comes behind a result
abbrev pub and_next : {A B : Type 0} → Result A Fault → (A → Result B Fault) → Result B Fault
and_next (Ok value) next = next value
and_next (Err why) next = Err why

abbrev pub argument : List ℕ → Val → NamedVal
argument name value = record { name = name; val = value }

-- an argument under the name that a key spells, behind others; another key is refused
abbrev pub name_added : Option (List ℕ) → Val → List NamedVal → Result (List NamedVal) Fault
name_added None value named = Err fault.Kind
name_added (Some name) value named = Ok (named ++ argument name value ∷ [])

unfoldable pub pair_named : HeapState → List NamedVal → Pair → Result (List NamedVal) Fault
pair_named heap named pair = name_added (text_in (cell_at heap pair.key)) pair.value named

abbrev pub pairs_named : HeapState → List NamedVal → List Pair → Result (List NamedVal) Fault
pairs_named heap named [] = Ok named
pairs_named heap named (pair ∷ pairs) =
    and_next (pair_named heap named pair) (λ more. pairs_named heap more pairs)

-- the arguments by name that a dictionary with strings as its keys gives, behind others
unfoldable pub cell_keywords : HeapState
    → List NamedVal
    → Option Cell
    → Result (List NamedVal) Fault
cell_keywords heap named (Some (cell.Dict entries)) =
    pairs_named heap named (map (λ entry. entry.pair) entries)
cell_keywords heap named held = Err fault.Kind

abbrev pub keywords_behind : HeapState → List NamedVal → Val → Result (List NamedVal) Fault
keywords_behind heap named value = cell_keywords heap named (cell_at heap value)

abbrev pub keywords_of : HeapState → Val → Result (List NamedVal) Fault
keywords_of heap = keywords_behind heap []

-- whether there is a value
abbrev pub checked : {A : Type 0} → Result A Fault → Result (Unit {0}) Fault
checked (Ok value) = Ok tt
checked (Err why) = Err why

abbrev pub with_items : Args → Result (List Val) Fault → Result Args Fault
with_items args (Ok items) = Ok (record args { positional = args.positional ++ items })
with_items args (Err why) = Err why

abbrev pub with_named : Args → Result (List NamedVal) Fault → Result Args Fault
with_named args (Ok named) = Ok (record args { named = named })
with_named args (Err why) = Err why

-- arguments with what a value gives in its way behind them
unfoldable pub given_behind : HeapState → Args → Way → Val → Result Args Fault
given_behind heap args way.Positional value = with_items args (Ok (value ∷ []))
given_behind heap args (way.Named name) value =
    with_named args (Ok (args.named ++ argument name value ∷ []))
given_behind heap args way.Star value = with_items args (items_of heap value)
given_behind heap args way.DoubleStar value =
    with_named args (keywords_behind heap args.named value)

-- the same with what values give, each in its way
abbrev pub all_behind : HeapState → Args → List Way → List Val → Result Args Fault
all_behind heap args [] [] = Ok args
all_behind heap args [] (value ∷ values) = Err fault.Kind
all_behind heap args (first ∷ ways) [] = Err fault.Kind
all_behind heap args (first ∷ ways) (value ∷ values) =
    and_next (given_behind heap args first value) (λ more. all_behind heap more ways values)

abbrev pub has_name : List ℕ → List NamedVal → Bool
has_name name named = list_any (λ other. bytes_eq other.name name) named

-- whether the arguments by name have different names
unfoldable pub names_differ : List NamedVal → Bool
names_differ [] = true
names_differ (first ∷ named) =
    if has_name first.name named then false else names_differ named

abbrev pub unless_twice : Result Args Fault → Result Args Fault
unless_twice (Ok args) = if names_differ args.named then Ok args else Err fault.Arity
unless_twice (Err why) = Err why

-- the arguments of a call: of one name there is one at most
unfoldable pub gathered : HeapState → List Way → List Val → Result Args Fault
gathered heap ways values = unless_twice (all_behind heap no_args ways values)
