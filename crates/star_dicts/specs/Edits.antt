-- Changes of a dictionary's entries: the Starlark specification, "Built-in methods" of
-- dictionaries.
use Rattle.std.specs.Prelude.{ℕ, ◌*◌, ◌-◌, List, [], ◌∷◌, length, option_map, Option, Some}
use Rattle.std.specs.Prelude.{None}
use Rattle.std.specs.Prelude.{Result, Ok, Err}
use Rattle.star_calls.specs.Edits.{edited_by}
use Rattle.star_calls.specs.declared.edits.Edited.{Edited}
use Rattle.star_core.specs.Dicts.{Entry, entry_of, with_entry, without_entry}
use Rattle.star_core.specs.Heaps.{Change, HeapState}
use Rattle.star_core.specs.Sizes.{entry_size}
use Rattle.star_core.specs.declared.cells.Cell.{Cell}
use Rattle.star_core.specs.declared.cells.Cell.TheVariants as cell
use Rattle.star_core.specs.declared.dict.Pair.{Pair}
use Rattle.star_core.specs.declared.faults.Fault.{Fault}
use Rattle.star_core.specs.declared.faults.Fault.TheVariants as fault
use Rattle.star_core.specs.declared.values.Val.{Val}
use Rattle.star_core.specs.declared.values.Val.TheVariants as val
use Rattle.star_dicts.specs.declared.editing.DictEdit.{DictEdit}
use Rattle.star_dicts.specs.declared.editing.DictEdit.TheVariants as edit
use Rattle.star_operators.specs.Binary.{united}

-- the entries that a dictionary then has, with what they add to the sizes, and a value
abbrev pub left_with : List Entry → ℕ → Val → Edited
left_with entries added answer =
    record { content = cell.Dict entries; added = added; answer = answer }

-- the value that stands under the content of a key
abbrev pub value_in : List ℕ → List Entry → Option Val
value_in content entries = option_map (λ pair. pair.value) (entry_of content entries)

-- the value that stands for an entry that isn't there
abbrev pub or_default : List Entry → Option Val → Result Edited Fault
or_default entries None = Err fault.Key
or_default entries (Some default) = Ok (left_with entries 0 default)

-- the entry of a key is taken, where there is one
abbrev pub taken_out : List ℕ → Option Val → List Entry → Option Val → Result Edited Fault
taken_out content default entries None = or_default entries default
taken_out content default entries (Some value) =
    Ok (left_with (without_entry content entries) 0 value)

-- the content of the first key
abbrev pub first_content : List Entry → Option (List ℕ)
first_content [] = None
first_content (entry ∷ entries) = Some entry.content

-- the entry of the first key is taken
abbrev pub content_out : List Entry → Option (List ℕ) → Result Edited Fault
content_out entries None = Err fault.Key
content_out entries (Some content) = Ok (left_with (without_entry content entries) 0 val.None)

abbrev pub first_out : List Entry → Result Edited Fault
first_out entries = content_out entries (first_content entries)

-- a pair is put where its key isn't there; the value is what then stands under the key
abbrev pub put_unless : List ℕ → Pair → List Entry → Option Val → Edited
put_unless content pair entries None =
    left_with (with_entry content pair entries) entry_size pair.value
put_unless content pair entries (Some value) = left_with entries 0 value

-- entries are put, of which the new ones add to the sizes
abbrev pub merged_with : List Entry → List Entry → Edited
merged_with entries others =
    left_with (united entries others)
    (entry_size * (length (united entries others) - length entries)) val.None

abbrev pub merged_if : List Entry → Result (List Entry) Fault → Result Edited Fault
merged_if entries (Ok others) = Ok (merged_with entries others)
merged_if entries (Err reason) = Err reason

-- a change of entries
unfoldable pub entries_edited : DictEdit → List Entry → Result Edited Fault
entries_edited edit.Clear entries = Ok (left_with [] 0 val.None)
entries_edited (edit.Pop content default) entries =
    taken_out content default entries (value_in content entries)
entries_edited edit.PopFirst entries = first_out entries
entries_edited (edit.PutUnless content pair) entries =
    Ok (put_unless content pair entries (value_in content entries))
entries_edited (edit.Merge others) entries = merged_if entries others

-- a change of a dictionary's cell
unfoldable pub dict_edited : DictEdit → Cell → Result Edited Fault
dict_edited change (cell.Dict entries) = entries_edited change entries
dict_edited change _ = Err fault.Kind

-- a change of a dictionary
abbrev pub dict_changed : Val → DictEdit → HeapState → Change Val
dict_changed dict change = edited_by dict (dict_edited change)
