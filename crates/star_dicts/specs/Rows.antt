-- The rows of the methods of dictionaries and of `dict`: the arguments bind and are of their kinds,
-- and the dictionary is changed or looked at. What depends on the entries comes last.
use Rattle.std.specs.Prelude.{ℕ, List, [], ◌∷◌, ◌++◌, map, Option, Some, None, Result, Ok, Err}
use Rattle.star_calls.specs.Values.{needed_at, result_then, value_at, value_or_none}
use Rattle.star_core.specs.Contents.{Content, key_content}
use Rattle.star_core.specs.Dicts.{Entry, pair_at}
use Rattle.star_core.specs.Heaps.{Change, HeapState, cell_at, made}
use Rattle.star_core.specs.declared.cells.Cell.{Cell}
use Rattle.star_core.specs.declared.cells.Cell.TheVariants as cell
use Rattle.star_core.specs.declared.dict.Pair.{Pair}
use Rattle.star_core.specs.declared.faults.Fault.{Fault}
use Rattle.star_core.specs.declared.faults.Fault.TheVariants as fault
use Rattle.star_core.specs.declared.values.Args.{Args}
use Rattle.star_core.specs.declared.values.NamedVal.{NamedVal}
use Rattle.star_core.specs.declared.values.Val.{Val}
use Rattle.star_core.specs.declared.values.Val.TheVariants as val
use Rattle.star_library.specs.Arguments.{arguments_bound}
use Rattle.star_library.specs.Calls.{give_back, go_on, list_made, result_of, tuple_made}
use Rattle.star_dicts.specs.Edits.{dict_changed}
use Rattle.star_dicts.specs.MethodNames.{parameters_of}
use Rattle.star_dicts.specs.Sources.{entries_from, entries_in, names_put, positional_of}
use Rattle.star_dicts.specs.Sources.{source_of}
use Rattle.star_dicts.specs.declared.editing.DictEdit.TheVariants as edit
use Rattle.star_dicts.specs.declared.methods.DictMethod.{DictMethod}
use Rattle.star_dicts.specs.declared.methods.DictMethod.TheVariants as method
use Rattle.star_dicts.specs.declared.sources.Source.{Source}
use Rattle.star_order.specs.Keys.{pair_found}

-- the pairs of a dictionary's cell
unfoldable pub pairs_in : Option Cell → Result (List Pair) Fault
pairs_in (Some (cell.Dict entries)) = Ok (map (λ entry. entry.pair) entries)
pairs_in _ = Err fault.Kind

-- the value of a pair, or a default one
abbrev pub value_or : Option Val → Option Pair → Val
value_or default None = value_or_none default
value_or default (Some pair) = pair.value

-- `get(key, default)`
abbrev pub found_or : HeapState → Val → Option Val → List Entry → Result Val Fault
found_or heap key default entries =
    result_then (pair_found (key_content heap key) entries)
    (λ found. Ok (value_or default found))

abbrev pub value_got : HeapState → Val → List (Option Val) → Result Val Fault
value_got heap dict values =
    result_then (entries_in (cell_at heap dict))
    (found_or heap (needed_at 0 values) (value_at 1 values))

-- a pair as a tuple
abbrev pub pair_made : Pair → HeapState → Change Val
pair_made pair = tuple_made (pair.key ∷ pair.value ∷ [])

-- pairs as tuples, each made behind those before it
abbrev pub pairs_made : List Val → List Pair → HeapState → Change (List Val)
pairs_made made [] heap = give_back made heap
pairs_made made (pair ∷ pairs) heap =
    go_on (pair_made pair heap) (λ tuple. pairs_made (made ++ tuple ∷ []) pairs)

-- `items()`
abbrev pub items_made : List Pair → HeapState → Change Val
items_made pairs heap = go_on (pairs_made [] pairs heap) list_made

abbrev pub items_listed : Result (List Pair) Fault → HeapState → Change Val
items_listed (Ok pairs) heap = items_made pairs heap
items_listed (Err reason) heap = Err reason

-- `keys()` and `values()`
abbrev pub part_listed : (Pair → Val) → Result (List Pair) Fault → HeapState → Change Val
part_listed part (Ok pairs) heap = list_made (map part pairs) heap
part_listed part (Err reason) heap = Err reason

-- `pop(key, default)`
abbrev pub popped_under : Val → Option Val → Content → HeapState → Change Val
popped_under dict default (Ok content) heap = dict_changed dict (edit.Pop content default) heap
popped_under dict default (Err reason) heap = Err reason

abbrev pub popped : Val → List (Option Val) → HeapState → Change Val
popped dict values heap =
    popped_under dict (value_at 1 values) (key_content heap (needed_at 0 values)) heap

-- the first pair of a dictionary's cell
unfoldable pub first_in : Option Cell → Option Pair
first_in (Some (cell.Dict entries)) = pair_at entries 0
first_in _ = None

-- a pair that was taken, as a tuple
abbrev pub pair_given : Option Pair → HeapState → Change Val
pair_given None heap = Err fault.Key
pair_given (Some pair) heap = pair_made pair heap

-- `popitem()`
abbrev pub item_popped : Val → HeapState → Change Val
item_popped dict heap =
    go_on (dict_changed dict edit.PopFirst heap)
    (λ done. pair_given (first_in (cell_at heap dict)))

-- `setdefault(key, default)`
abbrev pub put_under : Val → Pair → Content → HeapState → Change Val
put_under dict pair (Ok content) heap = dict_changed dict (edit.PutUnless content pair) heap
put_under dict pair (Err reason) heap = Err reason

abbrev pub default_pair : List (Option Val) → Pair
default_pair values =
    record { key = needed_at 0 values; value = needed_at 1 values }

abbrev pub default_put : Val → List (Option Val) → HeapState → Change Val
default_put dict values heap =
    put_under dict (default_pair values) (key_content heap (needed_at 0 values)) heap

-- a method of a dictionary other than `update`, with the values of its parameters
unfoldable pub dict_called : DictMethod → Val → List (Option Val) → HeapState → Change Val
dict_called method.Clear dict values heap = dict_changed dict edit.Clear heap
dict_called method.Get dict values heap = result_of (value_got heap dict values) heap
dict_called method.Items dict values heap = items_listed (pairs_in (cell_at heap dict)) heap
dict_called method.Keys dict values heap =
    part_listed (λ pair. pair.key) (pairs_in (cell_at heap dict)) heap
dict_called method.Pop dict values heap = popped dict values heap
dict_called method.Popitem dict values heap = item_popped dict heap
dict_called method.Setdefault dict values heap = default_put dict values heap
dict_called method.Update dict values heap = Err fault.Arity
dict_called method.Values dict values heap =
    part_listed (λ pair. pair.value) (pairs_in (cell_at heap dict)) heap

-- the entries that a call of `dict` or `update` is given
abbrev pub source_given : Args → HeapState → Result Source Fault
source_given args heap = result_then (positional_of args) (source_of heap)

-- entries, and behind them the named arguments, are put into a dictionary; where the pairs are
-- none, that the dictionary may be changed is tested first
abbrev pub merged_from : Val → List NamedVal → Result (List Entry) Fault → HeapState → Change Val
merged_from dict named (Ok entries) heap =
    go_on (names_put entries named heap) (λ all. dict_changed dict (edit.Merge (Ok all)))
merged_from dict named (Err reason) heap = dict_changed dict (edit.Merge (Err reason)) heap

-- `update(pairs, ..)`
abbrev pub source_merged : Val → List NamedVal → Result Source Fault → HeapState → Change Val
source_merged dict named (Ok source) heap =
    merged_from dict named (entries_from heap source) heap
source_merged dict named (Err reason) heap = Err reason

unfoldable pub update_row : Val → Args → HeapState → Change Val
update_row dict args heap = source_merged dict args.named (source_given args heap) heap

-- a new dictionary of entries, and behind them the named arguments
abbrev pub made_from : List NamedVal → Result (List Entry) Fault → HeapState → Change Val
made_from named (Ok entries) heap =
    go_on (names_put entries named heap) (λ all. made (cell.Dict all))
made_from named (Err reason) heap = Err reason

abbrev pub source_made : List NamedVal → Result Source Fault → HeapState → Change Val
source_made named (Ok source) heap = made_from named (entries_from heap source) heap
source_made named (Err reason) heap = Err reason

-- `dict(pairs, ..)`
unfoldable pub new_dict_row : Args → HeapState → Change Val
new_dict_row args heap = source_made args.named (source_given args heap) heap

-- the row of a method
abbrev pub bound_row : DictMethod → Val → Args → HeapState → Change Val
bound_row method dict args heap =
    go_on (result_of (arguments_bound (parameters_of method) args) heap) (dict_called method dict)

unfoldable pub dict_row : DictMethod → Val → Args → HeapState → Change Val
dict_row method.Update dict args heap = update_row dict args heap
dict_row method dict args heap = bound_row method dict args heap
