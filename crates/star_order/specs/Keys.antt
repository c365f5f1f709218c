-- Contents of keys, as they are written one behind another, and strings that are their own content.
use Rattle.std.specs.Prelude.{◌≡◌, ℕ, zero, suc, ◌==◌, Bool, false, List, [], ◌∷◌, Option, Some}
use Rattle.std.specs.Prelude.{None, Result, Ok, Err, if◌then◌else◌, option_and_then, ⊤}
use Rattle.bz_text.specs.declared.memory.Miss.{Miss}
use Rattle.bz_text.specs.declared.memory.Miss.TheVariants as miss
use Rattle.star_core.specs.Contents.{Content, bracketed, content_within, each_content, text_in}
use Rattle.star_core.specs.Dicts.{Entry, entry_of}
use Rattle.star_core.specs.Heaps.{HeapState}
use Rattle.star_core.specs.declared.cells.Cell.{Cell}
use Rattle.star_core.specs.declared.dict.Pair.{Pair}
use Rattle.star_core.specs.declared.faults.Fault.{Fault}
use Rattle.star_core.specs.declared.faults.Fault.TheVariants as fault
use Rattle.star_core.specs.declared.values.Val.{Val}

-- the text that is left is this content, or there is none for that reason, unless memory ran out
abbrev pub Written : Content → Result (Unit {0}) (Miss Fault) → List ℕ → Type 0
Written content (Ok done) text = content ≡ Ok text
Written content (Err (miss.Because reason)) text = content ≡ Err reason
Written content (Err miss.OutOfMemory) text = ⊤

-- the contents of a tuple's items in its brackets, of which so many more may nest
unfoldable pub items_content : ℕ → HeapState → List Val → Content
items_content zero heap items = Err fault.Depth
items_content (suc depth) heap items =
    bracketed (each_content (content_within depth heap) items)

-- whether a string begins with the sign that stands before every other content
abbrev pub begins_with_sign : List ℕ → Bool
begins_with_sign [] = false
begins_with_sign (first ∷ rest) = first == 1

-- a string that is its own content
abbrev pub own_content : List ℕ → Option (List ℕ)
own_content text = if begins_with_sign text then None else Some text

-- the string of a cell, where it is its own content
abbrev pub plain_text : Option Cell → Option (List ℕ)
plain_text held = option_and_then own_content (text_in held)

-- the pair that a dictionary has under a key, or why the key is none
abbrev pub pair_found : Content → List Entry → Result (Option Pair) Fault
pair_found (Ok content) entries = Ok (entry_of content entries)
pair_found (Err reason) entries = Err reason
