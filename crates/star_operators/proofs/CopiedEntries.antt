-- Entries copied one by one: since no two have one key, each goes last.
use Rattle.std.proofs.Common.{◌≡◌, ◌≢◌, ℕ, zero, suc, ◌+◌, ◌<◌, Bool, true, false, List, [], ◌∷◌}
use Rattle.std.proofs.Common.{add-one, ap, arith, get_or, if◌then◌else◌, length, refl, slice_get}
use Rattle.std.proofs.Common.{None, Some, sym, take, ◌∙◌}
use Rattle.std.proofs.lemmas.Slice.Eq.{bytes_eq-Decides}
use Rattle.std.specs.Str.{bytes_eq}
use Rattle.star_core.specs.Dicts.{Entry, KeysDiffer, with_entry}

bytes_differ : (text other : List ℕ) → text ≢ other → bytes_eq text other ≡ false
bytes_differ text other differ = by (bytes_eq text other) refl
  where
    by : (test : Bool) → bytes_eq text other ≡ test → test ≡ false
    by true is = absurd (differ ((bytes_eq-Decides text other).0 is))
    by false is = refl

entry_there : (entries : List Entry) (index : ℕ) (entry default : Entry)
    → slice_get entries index ≡ Some entry
    → get_or entries index default ≡ entry
entry_there [] index entry default is = absurd (cc)
entry_there (first ∷ entries) zero entry default is = cc
entry_there (first ∷ entries) (suc index) entry default is =
    entry_there entries index entry default is

index_within : (entries : List Entry) (index : ℕ) (entry : Entry)
    → slice_get entries index ≡ Some entry
    → index < length entries
index_within [] index entry is = absurd (cc)
index_within (first ∷ entries) zero entry is = omega arith
index_within (first ∷ entries) (suc index) entry is =
    let within : index < length entries = index_within entries index entry is in omega arith

with_entry_take : (entries : List Entry) (index : ℕ) (entry : Entry)
    → slice_get entries index ≡ Some entry
    → ((earlier : ℕ) → earlier < index
    → entry.content ≢ (get_or entries earlier entry).content)
    → with_entry entry.content entry.pair (take index entries) ≡ take (suc index) entries
with_entry_take [] index entry is apart = absurd (cc)
with_entry_take (first ∷ entries) zero entry is apart =
    let it : first ≡ entry = cc in ap (λ (one : Entry). one ∷ []) (sym it)
with_entry_take (first ∷ entries) (suc index) entry is apart =
    let no : bytes_eq entry.content first.content ≡ false =
    bytes_differ entry.content first.content (apart 0 (omega arith)) in
    ap (λ test. if test then record { content = first.content; pair = entry.pair }
    ∷ take index entries
    else first ∷ with_entry entry.content entry.pair (take index entries)) no
    ∙ ap (λ rest. first ∷ rest) (with_entry_take entries index entry is
    (λ earlier before. apart (suc earlier) (omega arith)))

pub copied_on : (entries : List Entry) (index : ℕ) (entry : Entry) (copy : List Entry)
    → KeysDiffer entries
    → slice_get entries index ≡ Some entry
    → copy ≡ take index entries
    → with_entry entry.content entry.pair copy ≡ take (index + 1) entries
copied_on entries index entry copy differ is front =
    ap (with_entry entry.content entry.pair) front
    ∙ with_entry_take entries index entry is (λ earlier before same.
    differ earlier index entry before (index_within entries index entry is)
    (sym same ∙ ap (λ one. one.content) (sym (entry_there entries index entry entry is))))
    ∙ ap (λ (one : ℕ). take one entries) (sym (add-one index))

pub copied_ended : (entries : List Entry) (index : ℕ) (copy : List Entry)
    → slice_get entries index ≡ None
    → copy ≡ take index entries
    → copy ≡ entries
copied_ended [] zero copy none front = front
copied_ended [] (suc index) copy none front = front
copied_ended (entry ∷ entries) zero copy none front = absurd (cc)
copied_ended (entry ∷ entries) (suc index) copy none front =
    front ∙ ap (λ rest. entry ∷ rest) (copied_ended entries index (take index entries) none refl)
