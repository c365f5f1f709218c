-- Dictionaries, kept under owned texts.
use Rattle.std.proofs.Common.{◌≡◌, ◌≢◌, ℕ, zero, suc, ◌<◌, Bool, true, false, List, [], ◌∷◌, Some}
use Rattle.std.proofs.Common.{String, string_bytes, if◌then◌else◌, length, get_or, refl, ap, sym}
use Rattle.std.proofs.Common.{◌∙◌, arith}
use Rattle.std.proofs.lemmas.Bool.{true≢false}
use Rattle.std.proofs.lemmas.Map.Keys.{IsDistinct-head, IsDistinct-tail}
use Rattle.std.proofs.lemmas.Slice.Eq.{bytes_eq-Decides}
use Rattle.std.specs.List.{AllByRecursion, IsDistinct}
use Rattle.std.specs.Str.{bytes_eq}
use Rattle.std.specs.String.{string_eq}
use Rattle.std.specs.Map.{keys_of, lookup, remove_entry}
use Rattle.std.specs.declared.alloc.Global.{Global}
use Rattle.indexmap.specs.IndexMap.{insert_entry}
use Rattle.star_core.specs.Dicts.{Entry, KeysDiffer, entries_of, entry_of, entry_under}
use Rattle.star_core.specs.Dicts.{with_entry, without_entry}
use Rattle.star_core.specs.declared.dict.Pair.{Pair}

pub lookup-entry_of : (content : List ℕ) (kept : List (String Global × Pair))
    → lookup (λ k. bytes_eq content (string_bytes k)) kept ≡ entry_of content (entries_of kept)
lookup-entry_of content [] = refl
lookup-entry_of content (e ∷ es) =
    ap (λ r. if bytes_eq content (string_bytes e.0) then Some e.1 else r)
    (lookup-entry_of content es)

pub entries_of-insert_entry : (kept : List (String Global × Pair)) (k : String Global) (pair : Pair)
    → entries_of (insert_entry string_eq kept k pair)
    ≡ with_entry (string_bytes k) pair (entries_of kept)
entries_of-insert_entry [] k pair = refl
entries_of-insert_entry (e ∷ es) k pair =
    by (bytes_eq (string_bytes k) (string_bytes e.0)) (entries_of-insert_entry es k pair)
  where
    by : (t : Bool)
        → entries_of (insert_entry string_eq es k pair)
        ≡ with_entry (string_bytes k) pair (entries_of es)
        → entries_of (if t then (e.0, pair) ∷ es else e ∷ insert_entry string_eq es k pair)
        ≡ (if t then record { content = string_bytes e.0; pair = pair } ∷ entries_of es
        else entry_under e ∷ with_entry (string_bytes k) pair (entries_of es))
    by true further = refl
    by false further = ap (λ l. entry_under e ∷ l) further

pub entries_of-remove_entry : (content : List ℕ) (kept : List (String Global × Pair))
    → entries_of (remove_entry (λ k. bytes_eq content (string_bytes k)) kept)
    ≡ without_entry content (entries_of kept)
entries_of-remove_entry content [] = refl
entries_of-remove_entry content (e ∷ es) =
    by (bytes_eq content (string_bytes e.0)) (entries_of-remove_entry content es)
  where
    by : (t : Bool)
        → entries_of (remove_entry (λ k. bytes_eq content (string_bytes k)) es)
        ≡ without_entry content (entries_of es)
        → entries_of (if t then es
        else e ∷ remove_entry (λ k. bytes_eq content (string_bytes k)) es)
        ≡ (if t then entries_of es else entry_under e ∷ without_entry content (entries_of es))
    by true further = refl
    by false further = ap (λ l. entry_under e ∷ l) further

content_apart : (k : String Global) (kept : List (String Global × Pair))
    → AllByRecursion (λ y. string_eq k y ≡ false) (keys_of kept)
    → (j : ℕ) (d : Entry)
    → j < length (entries_of kept)
    → string_bytes k ≢ (get_or (entries_of kept) j d).content
content_apart k [] apart j d within same = absurd (omega arith)
content_apart k (e ∷ es) apart zero d within same =
    true≢false (sym ((bytes_eq-Decides (string_bytes k) (string_bytes e.0)).1 same) ∙ apart.0)
content_apart k (e ∷ es) apart (suc j) d within same =
    content_apart k es apart.1 j d (omega arith) same

-- a map's keys differ, and so do the contents of its entries
pub KeysDiffer-entries_of : (kept : List (String Global × Pair))
    → IsDistinct string_eq (keys_of kept)
    → KeysDiffer (entries_of kept)
KeysDiffer-entries_of [] apart i j d before within same = absurd (omega arith)
KeysDiffer-entries_of (e ∷ es) apart zero zero d before within same = absurd (omega arith)
KeysDiffer-entries_of (e ∷ es) apart zero (suc j) d before within same =
    content_apart e.0 es (IsDistinct-head string_eq e.0 (keys_of es) apart) j d (omega arith) same
KeysDiffer-entries_of (e ∷ es) apart (suc i) zero d before within same = absurd (omega arith)
KeysDiffer-entries_of (e ∷ es) apart (suc i) (suc j) d before within same =
    KeysDiffer-entries_of es (IsDistinct-tail string_eq e.0 (keys_of es) apart) i j d
    (omega arith) (omega arith) same
