-- Repository mappings, kept under owned texts.
use Rattle.std.proofs.Common.{◌≡◌, ◌≢◌, ℕ, zero, suc, ◌<◌, get_or, Bool, true, false, List, [], ◌∷◌}
use Rattle.std.proofs.Common.{◌++◌, None, Some, String, string_bytes, length, if◌then◌else◌, refl}
use Rattle.std.proofs.Common.{ap, ◌∙◌, sym, arith}
use Rattle.std.proofs.lemmas.Bool.{and_from, and_parts, true≢false}
use Rattle.std.proofs.lemmas.Map.Keys.{IsDistinct-head, IsDistinct-tail}
use Rattle.std.proofs.lemmas.Slice.Eq.{bytes_eq-Decides}
use Rattle.std.specs.List.{AllByRecursion, IsDistinct}
use Rattle.std.specs.Str.{bytes_eq}
use Rattle.std.specs.String.{string_eq}
use Rattle.std.specs.Map.{keys_of, lookup}
use Rattle.std.specs.declared.alloc.Global.{Global}
use Rattle.indexmap.specs.IndexMap.{insert_entry}
use Rattle.bz_base.specs.Names.{is_apparent, is_canonical}
use Rattle.bz_label.specs.Mappings.{NamesDiffer, are_names, found, pairs_of, put}

pub lookup-found : (apparent : List ℕ) (entries : List (String Global × List ℕ))
    → lookup (λ k. bytes_eq apparent (string_bytes k)) entries ≡ found apparent (pairs_of entries)
lookup-found apparent [] = refl
lookup-found apparent (e ∷ es) =
    ap (λ r. if bytes_eq apparent (string_bytes e.0) then Some e.1 else r)
    (lookup-found apparent es)

pub pairs_of-insert_entry : (entries : List (String Global × List ℕ)) (k : String Global)
    (v : List ℕ)
    → pairs_of (insert_entry string_eq entries k v) ≡ put (string_bytes k) v (pairs_of entries)
pairs_of-insert_entry [] k v = refl
pairs_of-insert_entry (e ∷ es) k v = by (bytes_eq (string_bytes k) (string_bytes e.0))
    (pairs_of-insert_entry es k v)
  where
    by : (t : Bool)
        → pairs_of (insert_entry string_eq es k v) ≡ put (string_bytes k) v (pairs_of es)
        → pairs_of (if t then (e.0, v) ∷ es else e ∷ insert_entry string_eq es k v)
        ≡ (if t then (string_bytes e.0, v) ∷ pairs_of es
        else (string_bytes e.0, e.1) ∷ put (string_bytes k) v (pairs_of es))
    by true further = refl
    by false further = ap (λ ps. (string_bytes e.0, e.1) ∷ ps) further

pub put-absent : (apparent canonical : List ℕ) (pairs : List (List ℕ × List ℕ))
    → found apparent pairs ≡ None
    → put apparent canonical pairs ≡ pairs ++ (apparent, canonical) ∷ []
put-absent apparent canonical [] absent = refl
put-absent apparent canonical (pair ∷ pairs) absent = by (bytes_eq apparent pair.0)
    (put-absent apparent canonical pairs) absent
  where
    by : (t : Bool)
        → (found apparent pairs ≡ None
        → put apparent canonical pairs ≡ pairs ++ (apparent, canonical) ∷ [])
        → (if t then Some pair.1 else found apparent pairs) ≡ None
        → (if t then (pair.0, canonical) ∷ pairs else pair ∷ put apparent canonical pairs)
        ≡ pair ∷ (pairs ++ (apparent, canonical) ∷ [])
    by true further e = absurd (cc)
    by false further e = ap (λ ps. pair ∷ ps) (further e)

name_apart : (k : String Global) (entries : List (String Global × List ℕ))
    → AllByRecursion (λ y. string_eq k y ≡ false) (keys_of entries)
    → (j : ℕ) (d : List ℕ × List ℕ)
    → j < length (pairs_of entries)
    → string_bytes k ≢ (get_or (pairs_of entries) j d).0
name_apart k [] h j d within e = absurd (omega arith)
name_apart k (entry ∷ entries) h zero d within e =
    true≢false (sym ((bytes_eq-Decides (string_bytes k) (string_bytes entry.0)).1 e) ∙ h.0)
name_apart k (entry ∷ entries) h (suc j) d within e = name_apart k entries h.1 j d (omega arith) e

pub NamesDiffer-pairs_of : (entries : List (String Global × List ℕ))
    → IsDistinct string_eq (keys_of entries)
    → NamesDiffer (pairs_of entries)
NamesDiffer-pairs_of [] h i j d before within e = absurd (omega arith)
NamesDiffer-pairs_of (entry ∷ entries) h zero zero d before within e = absurd (omega arith)
NamesDiffer-pairs_of (entry ∷ entries) h zero (suc j) d before within e =
    name_apart entry.0 entries (IsDistinct-head string_eq entry.0 (keys_of entries) h) j d
    (omega arith) e
NamesDiffer-pairs_of (entry ∷ entries) h (suc i) zero d before within e = absurd (omega arith)
NamesDiffer-pairs_of (entry ∷ entries) h (suc i) (suc j) d before within e =
    NamesDiffer-pairs_of entries (IsDistinct-tail string_eq entry.0 (keys_of entries) h) i j d
    (omega arith) (omega arith) e

pub are_names-put : (apparent canonical : List ℕ) (pairs : List (List ℕ × List ℕ))
    → is_apparent apparent ≡ true
    → is_canonical canonical ≡ true
    → are_names pairs ≡ true
    → are_names (put apparent canonical pairs) ≡ true
are_names-put apparent canonical [] one other all = and_from _ _ (and_from _ _ one other) refl
are_names-put apparent canonical (pair ∷ pairs) one other all =
    by (bytes_eq apparent pair.0)
    (are_names-put apparent canonical pairs one other (and_parts _ _ all).1)
  where
    by : (same : Bool)
        → are_names (put apparent canonical pairs) ≡ true
        → are_names (if same then (pair.0, canonical) ∷ pairs else pair ∷ put apparent canonical
        pairs) ≡ true
    by true further = and_from _ _ (and_from _ _ (and_parts _ _ (and_parts _ _ all).0).0 other)
        (and_parts _ _ all).1
    by false further = and_from _ _ (and_parts _ _ all).0 further
