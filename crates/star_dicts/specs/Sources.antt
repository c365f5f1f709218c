-- The entries that `dict` and `update` are given: those of a dictionary, or pairs, and behind them
-- the named arguments. The Starlark specification, "dict" and "dict·update".
use Rattle.std.specs.Prelude.{ℕ, Bool, true, false, bytes_eq, if◌then◌else◌}
use Rattle.std.specs.Prelude.{List, [], ◌∷◌, Option, Some, None, Result, Ok, Err}
use Rattle.star_calls.specs.Values.{result_then}
use Rattle.star_core.specs.Contents.{Content, key_content}
use Rattle.star_core.specs.Dicts.{Entry, with_entry}
use Rattle.star_core.specs.Heaps.{Change, HeapState, cell_at, literal_made}
use Rattle.star_core.specs.declared.cells.Cell.{Cell}
use Rattle.star_core.specs.declared.cells.Cell.TheVariants as cell
use Rattle.star_core.specs.declared.dict.Pair.{Pair}
use Rattle.star_core.specs.declared.faults.Fault.{Fault}
use Rattle.star_core.specs.declared.faults.Fault.TheVariants as fault
use Rattle.star_core.specs.declared.values.Args.{Args}
use Rattle.star_core.specs.declared.values.NamedVal.{NamedVal}
use Rattle.star_core.specs.declared.values.Val.{Val}
use Rattle.star_library.specs.Calls.{give_back, go_on, result_of}
use Rattle.star_library.specs.Kinds.{items_of}
use Rattle.star_dicts.specs.declared.sources.Source.{Source}
use Rattle.star_dicts.specs.declared.sources.Source.TheVariants as source

-- an argument of this name is among them
abbrev pub is_named : List ℕ → List NamedVal → Bool
is_named name [] = false
is_named name (one ∷ more) = if bytes_eq one.name name then true else is_named name more

-- no two arguments have one name
abbrev pub names_differ : List NamedVal → Bool
names_differ [] = true
names_differ (one ∷ more) = if is_named one.name more then false else names_differ more

-- at most one positional argument, and named ones that differ
abbrev pub one_positional : List Val → Result (Option Val) Fault
one_positional [] = Ok None
one_positional (one ∷ []) = Ok (Some one)
one_positional (one ∷ other ∷ more) = Err fault.Arity

unfoldable pub positional_of : Args → Result (Option Val) Fault
positional_of args =
    if names_differ args.named then one_positional args.positional else Err fault.Arity

-- the entries of a dictionary's cell
unfoldable pub entries_in : Option Cell → Result (List Entry) Fault
entries_in (Some (cell.Dict entries)) = Ok entries
entries_in _ = Err fault.Kind

-- the entries of a dictionary, or the items of another iterable
abbrev pub source_by : Result (List Entry) Fault → Result (List Val) Fault → Result Source Fault
source_by (Ok entries) items = Ok (source.Entries entries)
source_by (Err reason) (Ok items) = Ok (source.Items items)
source_by (Err reason) (Err other) = Err other

abbrev pub items_source : List Val → Result Source Fault
items_source items = Ok (source.Items items)

abbrev pub value_source : HeapState → Val → Result Source Fault
value_source heap value = source_by (entries_in (cell_at heap value)) (items_of heap value)

abbrev pub source_of : HeapState → Option Val → Result Source Fault
source_of heap None = Ok (source.Items [])
source_of heap (Some value) = value_source heap value

-- a key and a value, which are the two items of an iterable
unfoldable pub pair_from : List Val → Result Pair Fault
pair_from (key ∷ value ∷ []) = Ok (record { key = key; value = value })
pair_from _ = Err fault.Value

abbrev pub pair_of : HeapState → Val → Result Pair Fault
pair_of heap item = result_then (items_of heap item) pair_from

-- a pair is put under its key
abbrev pub pair_under : List Entry → Pair → Content → Result (List Entry) Fault
pair_under entries pair (Ok content) = Ok (with_entry content pair entries)
pair_under entries pair (Err reason) = Err reason

abbrev pub pair_put : HeapState → List Entry → Pair → Result (List Entry) Fault
pair_put heap entries pair = pair_under entries pair (key_content heap pair.key)

abbrev pub item_put : HeapState → List Entry → Val → Result (List Entry) Fault
item_put heap entries item = result_then (pair_of heap item) (pair_put heap entries)

-- pairs are put in order, and the first refusal wins
abbrev pub items_put : HeapState → List Entry → List Val → Result (List Entry) Fault
items_put heap entries [] = Ok entries
items_put heap entries (item ∷ items) =
    result_then (item_put heap entries item) (λ more. items_put heap more items)

-- the entries of a source
unfoldable pub entries_from : HeapState → Source → Result (List Entry) Fault
entries_from heap (source.Entries entries) = Ok entries
entries_from heap (source.Items items) = items_put heap [] items

-- a named argument is put: its name is a string that costs nothing, as one that the file spells
abbrev pub value_under : List Entry → Val → Val → HeapState → Change (List Entry)
value_under entries value key heap =
    result_of (pair_put heap entries (record { key = key; value = value })) heap

abbrev pub name_put : List Entry → NamedVal → HeapState → Change (List Entry)
name_put entries one heap = go_on (literal_made one.name heap) (value_under entries one.val)

abbrev pub names_put : List Entry → List NamedVal → HeapState → Change (List Entry)
names_put entries [] heap = give_back entries heap
names_put entries (one ∷ more) heap =
    go_on (name_put entries one heap) (λ all. names_put all more)
