-- Overrides kept under owned texts, and those of a list.
use Rattle.std.proofs.lemmas.Option.{slice_get-map}
use Rattle.std.specs.List.{slice_get}
use Rattle.std.specs.Option.{option_map}
use Rattle.std.proofs.Common.{◌≡◌, ◌≢◌, ℕ, suc, ◌+◌, ◌<◌, get_or, Bool, true, false, List, []}
use Rattle.std.proofs.Common.{◌∷◌, ◌++◌, drop, None, Some, String, string_bytes, length, map}
use Rattle.std.proofs.Common.{if◌then◌else◌, refl, ap, sym, ◌∙◌, arith}
use Rattle.std.proofs.lemmas.Slice.Eq.{bytes_eq-Decides}
use Rattle.std.specs.Str.{bytes_eq}
use Rattle.std.specs.String.{string_eq}
use Rattle.std.specs.Map.{lookup}
use Rattle.std.specs.declared.alloc.Global.{Global}
use Rattle.indexmap.specs.IndexMap.{insert_entry}
use Rattle.bz_base.specs.declared.declarations.Override.{Override}
use Rattle.bz_base.specs.declared.declarations.OverrideKind.{OverrideKind}
use Rattle.bz_text.proofs.ListWalks.{drop-next}
use Rattle.overrides.specs.Overrides.{NamesDiffer, kind_of, kinds_of, named_kind}

pub lookup-kind_of : (name : List ℕ) (entries : List (String Global × OverrideKind))
    → lookup (λ key. bytes_eq name (string_bytes key)) entries ≡ kind_of name (kinds_of entries)
lookup-kind_of name [] = refl
lookup-kind_of name (entry ∷ entries) =
    ap (λ further. if bytes_eq name (string_bytes entry.0) then Some entry.1 else further)
    (lookup-kind_of name entries)

-- a name that isn't there goes last
pub kinds_of-insert_entry : (entries : List (String Global × OverrideKind)) (key : String Global)
    (kind : OverrideKind)
    → kind_of (string_bytes key) (kinds_of entries) ≡ None
    → kinds_of (insert_entry string_eq entries key kind)
    ≡ kinds_of entries ++ (string_bytes key, kind) ∷ []
kinds_of-insert_entry [] key kind absent = refl
kinds_of-insert_entry (entry ∷ entries) key kind absent =
    by (bytes_eq (string_bytes key) (string_bytes entry.0))
    (kinds_of-insert_entry entries key kind) absent
  where
    by : (t : Bool)
        → (kind_of (string_bytes key) (kinds_of entries) ≡ None
        → kinds_of (insert_entry string_eq entries key kind)
        ≡ kinds_of entries ++ (string_bytes key, kind) ∷ [])
        → (if t then Some entry.1 else kind_of (string_bytes key) (kinds_of entries)) ≡ None
        → kinds_of (if t then (entry.0, kind) ∷ entries else entry ∷ insert_entry string_eq entries
        key kind)
        ≡ (string_bytes entry.0, entry.1) ∷ (kinds_of entries ++ (string_bytes key, kind) ∷ [])
    by true further e = absurd (cc e)
    by false further e = ap (λ pairs. (string_bytes entry.0, entry.1) ∷ pairs) (further e)

-- where an override stands in the list whose pairs are joined here
place : (pairs rest : List (List ℕ × OverrideKind)) (one : List ℕ × OverrideKind)
    (overrides : List Override) (other : Override)
    → pairs ++ one ∷ rest ≡ map named_kind overrides
    → (length pairs < length overrides)
    × ((get_or overrides (length pairs) other).name ≡ one.0)
place [] rest one [] other e = absurd (cc e)
place [] rest one (first ∷ overrides) other e = (omega arith, cc e)
place (pair ∷ pairs) rest one [] other e = absurd (cc e)
place (pair ∷ pairs) rest one (first ∷ overrides) other e =
    let further = place pairs rest one overrides other (cc e) in
    (omega (arith, further.0), further.1)

unequal : (name other : List ℕ) (t : Bool)
    → bytes_eq name other ≡ t
    → name ≢ other
    → t ≡ false
unequal name other true e differ = absurd (differ ((bytes_eq-Decides name other).0 e))
unequal name other false e differ = refl

-- no override before this one has its name
absent : (pairs rest : List (List ℕ × OverrideKind)) (one : List ℕ × OverrideKind)
    (overrides : List Override)
    → NamesDiffer overrides
    → pairs ++ one ∷ rest ≡ map named_kind overrides
    → kind_of one.0 pairs ≡ None
absent [] rest one overrides differ e = refl
absent (pair ∷ pairs) rest one [] differ e = absurd (cc e)
absent (pair ∷ pairs) rest one (first ∷ overrides) differ e =
    let there = place pairs rest one overrides first (cc e) in
    let own : pair.0 ≡ first.name = cc e in
    let apart : one.0 ≢ pair.0 = λ same. differ 0 (suc (length pairs)) first (omega arith)
    (omega (arith, there.0)) (sym own ∙ sym same ∙ sym there.1) in
    ap (λ t. if t then Some pair.1 else kind_of one.0 pairs)
    (unequal one.0 pair.0 (bytes_eq one.0 pair.0) refl apart)
    ∙ absent pairs rest one overrides
    (λ i j other before within. differ (suc i) (suc j) other (omega (arith, before))
    (omega (arith, within))) (cc e)

pub next_absent : (pairs : List (List ℕ × OverrideKind)) (overrides : List Override) (i : ℕ)
    (one : Override)
    → NamesDiffer overrides
    → i < length overrides
    → one ≡ get_or overrides i one
    → pairs ++ map named_kind (drop i overrides) ≡ map named_kind overrides
    → kind_of one.name pairs ≡ None
next_absent pairs overrides i one differ below is e =
    absent pairs (map named_kind (drop (i + 1) overrides)) (named_kind one) overrides differ
    (ap (λ left. pairs ++ map named_kind left) (sym (drop-next overrides i one below is)) ∙ e)

-- the name of the override at an index
pub names-at : (entries : List (String Global × OverrideKind)) (index : ℕ)
    (one : String Global × OverrideKind)
    → slice_get entries index ≡ Some one
    → slice_get (map (λ kind. kind.0) (kinds_of entries)) index ≡ Some (string_bytes one.0)
names-at entries index one there =
    slice_get-map (λ (kind : List ℕ × OverrideKind). kind.0) (kinds_of entries) index
    ∙ ap (option_map (λ (kind : List ℕ × OverrideKind). kind.0))
    (slice_get-map (λ (entry : String Global × OverrideKind). (string_bytes entry.0, entry.1))
    entries index
    ∙ ap (option_map (λ (entry : String Global × OverrideKind). (string_bytes entry.0, entry.1)))
    there)
