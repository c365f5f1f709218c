-- Dictionaries as lists of entries: the Starlark specification, "Dictionaries". An entry has the
-- text of its key's content: two entries have one key exactly where these texts are one.
use Rattle.std.specs.Prelude.{◌≢◌, ℕ, List, [], ◌∷◌, Option, Some, None, String, option_map, map}
use Rattle.std.specs.Prelude.{string_bytes, bytes_eq, slice_get, if◌then◌else◌, AllPairs}
use Rattle.std.specs.declared.alloc.Global.{Global}
use Rattle.star_core.specs.declared.dict.Pair.{Pair}

-- the text of a key's content, and the key with its value
pub record Entry : Type 0 where
  pub content : List ℕ
  pub pair : Pair

-- the entry that is kept under an owned text
abbrev pub entry_under : String Global × Pair → Entry
entry_under kept = record { content = string_bytes kept.0; pair = kept.1 }

abbrev pub entries_of : List (String Global × Pair) → List Entry
entries_of kept = map entry_under kept

-- the pair whose key has this content
abbrev pub entry_of : List ℕ → List Entry → Option Pair
entry_of content [] = None
entry_of content (entry ∷ entries) =
    if bytes_eq content entry.content then Some entry.pair else entry_of content entries

-- a pair takes the place of the one that stands under its content, and goes last where none does
abbrev pub with_entry : List ℕ → Pair → List Entry → List Entry
with_entry content pair [] = record { content = content; pair = pair } ∷ []
with_entry content pair (entry ∷ entries) =
    if bytes_eq content entry.content
    then record { content = entry.content; pair = pair } ∷ entries
    else entry ∷ with_entry content pair entries

-- the entries without that of a content
abbrev pub without_entry : List ℕ → List Entry → List Entry
without_entry content [] = []
without_entry content (entry ∷ entries) =
    if bytes_eq content entry.content then entries else entry ∷ without_entry content entries

-- the pair with this number, in order
abbrev pub pair_at : List Entry → ℕ → Option Pair
pair_at entries index = option_map (λ entry. entry.pair) (slice_get entries index)

-- no two entries have one key
abbrev pub KeysDiffer : List Entry → Type 0
KeysDiffer entries = AllPairs (λ one other. one.content ≢ other.content) entries
