-- Entries put together one by one.
use Rattle.std.proofs.Common.{◌≡◌, ℕ, zero, suc, ◌+◌, List, [], ◌∷◌, drop}
use Rattle.std.proofs.Common.{slice_get, Some, None, ap, sym, ◌∙◌, add-one}
use Rattle.star_core.specs.Dicts.{Entry, with_entry}
use Rattle.star_operators.specs.Binary.{united}

-- an entry is put before those behind it
united_next : (entries others : List Entry) (index : ℕ) (entry : Entry)
    → slice_get others index ≡ Some entry
    → united entries (drop index others)
    ≡ united (with_entry entry.content entry.pair entries) (drop (suc index) others)
united_next entries [] index entry is = absurd (cc)
united_next entries (first ∷ others) zero entry is =
    let it : first ≡ entry = cc in
    ap (λ (one : Entry). united (with_entry one.content one.pair entries) others) it
united_next entries (first ∷ others) (suc index) entry is =
    united_next entries others index entry is

pub united_on : (entries others whole : List Entry) (index : ℕ) (entry : Entry)
    → slice_get others index ≡ Some entry
    → united entries (drop index others) ≡ whole
    → united (with_entry entry.content entry.pair entries) (drop (index + 1) others) ≡ whole
united_on entries others whole index entry is all =
    rw add-one (sym (united_next entries others index entry is) ∙ all)

pub united_ended : (entries others whole : List Entry) (index : ℕ)
    → slice_get others index ≡ None
    → united entries (drop index others) ≡ whole
    → entries ≡ whole
united_ended entries [] whole zero none all = all
united_ended entries [] whole (suc index) none all = all
united_ended entries (entry ∷ others) whole zero none all = absurd (cc)
united_ended entries (entry ∷ others) whole (suc index) none all =
    united_ended entries others whole index none all
