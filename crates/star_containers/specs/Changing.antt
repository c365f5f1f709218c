-- Changes of lists and dictionaries in place: the Starlark specification, "Assignments" and
-- "Augmented assignments". The container is taken first, which tests that it may be changed.
use Rattle.std.specs.Prelude.{ℕ, ◌*◌, ◌-◌, List, ◌++◌, length, slice_set, Option, Some, Result, Ok}
use Rattle.std.specs.Prelude.{Err}
use Rattle.star_core.specs.Contents.{Content, key_content}
use Rattle.star_core.specs.Dicts.{Entry, with_entry}
use Rattle.star_core.specs.Heaps.{Change, HeapState, cell_at, given, given_answer, sum_for}
use Rattle.star_core.specs.Heaps.{taken}
use Rattle.star_core.specs.Sizes.{entry_size, item_size}
use Rattle.star_core.specs.declared.cells.Cell.{Cell}
use Rattle.star_core.specs.declared.cells.Cell.TheVariants as cell
use Rattle.star_core.specs.declared.faults.Fault.{Fault}
use Rattle.star_core.specs.declared.faults.Fault.TheVariants as fault
use Rattle.star_core.specs.declared.values.Val.{Val}
use Rattle.star_library.specs.Calls.{and_then, result_of}
use Rattle.star_library.specs.Kinds.{items_of}
use Rattle.star_operators.specs.Binary.{united}
use Rattle.star_operators.specs.Indexing.{place_of}
use Rattle.star_containers.specs.declared.changing.Changed.{Changed}

-- the content is put back, unless it is too large
abbrev pub put_answer : Result (Unit {0}) Fault → HeapState → Change (Unit {0})
put_answer (Ok done) heap = Ok (tt, heap)
put_answer (Err reason) heap = Err reason

-- the same, with what it adds to the sum of sizes
abbrev pub put : Val → Changed → HeapState → Change (Unit {0})
put of changed heap =
    put_answer (given_answer (sum_for changed.content changed.added heap))
    (given of changed.content changed.added heap)

abbrev pub put_changed : Val → Result Changed Fault → HeapState → Change (Unit {0})
put_changed of (Ok changed) heap = put of changed heap
put_changed of (Err reason) heap = Err reason

-- what a container is taken out of and put back into
abbrev pub changed_by : Val
    → (HeapState → Cell → Result Changed Fault)
    → HeapState
    → Change (Unit {0})
changed_by of change =
    and_then (taken of) (λ content heap. put_changed of (change heap content) heap)

-- an item of a list is set
abbrev pub item_set : List Val → Val → Result ℕ Fault → Result Changed Fault
item_set items value (Ok place) =
    Ok (record { content = cell.List (slice_set items place value); added = 0 })
item_set items value (Err reason) = Err reason

-- a dictionary that had the first entries and has the second ones: new entries add to the sizes
abbrev pub dict_changed : List Entry → List Entry → Changed
dict_changed before now =
    record { content = cell.Dict now; added = entry_size * (length now - length before) }

-- a key gets a value
abbrev pub entry_set : List Entry → Val → Val → Content → Result Changed Fault
entry_set entries key value (Ok content) =
    Ok (dict_changed entries (with_entry content (record { key = key; value = value }) entries))
entry_set entries key value (Err reason) = Err reason

-- the same, where the value is a key
abbrev pub entry_put : HeapState → List Entry → Val → Val → Result Changed Fault
entry_put heap entries key value = entry_set entries key value (key_content heap key)

-- an index or a key of a content gets a value
unfoldable pub content_set : Val → Val → HeapState → Cell → Result Changed Fault
content_set at value heap (cell.List items) = item_set items value (place_of at (length items))
content_set at value heap (cell.Dict entries) = entry_put heap entries at value
content_set at value heap _ = Err fault.Kind

-- `of[at] = value`
abbrev pub index_set : Val → Val → Val → HeapState → Change (Unit {0})
index_set of at value = changed_by of (content_set at value)

-- a list gets these items behind its own
unfoldable pub content_extended : List Val → Cell → Result Changed Fault
content_extended items (cell.List old) =
    Ok (record { content = cell.List (old ++ items); added = item_size * length items })
content_extended items _ = Err fault.Kind

-- `list += by`: the items are known before the list is taken, so that a list can extend itself
abbrev pub extended : Val → Val → HeapState → Change (Unit {0})
extended list by =
    and_then (λ heap. result_of (items_of heap by) heap)
    (λ items. changed_by list (λ heap. content_extended items))

-- the entries of a dictionary
unfoldable pub entries_in : Option Cell → Result (List Entry) Fault
entries_in (Some (cell.Dict entries)) = Ok entries
entries_in _ = Err fault.Kind

-- a dictionary gets these entries
unfoldable pub content_merged : List Entry → Cell → Result Changed Fault
content_merged others (cell.Dict entries) = Ok (dict_changed entries (united entries others))
content_merged others _ = Err fault.Kind

-- `dict |= by`
abbrev pub merged : Val → Val → HeapState → Change (Unit {0})
merged dict by =
    and_then (λ heap. result_of (entries_in (cell_at heap by)) heap)
    (λ others. changed_by dict (λ heap. content_merged others))
