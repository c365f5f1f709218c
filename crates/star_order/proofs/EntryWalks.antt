-- Entries of a dictionary, compared one by one.
use Rattle.std.proofs.Common.{◌≡◌, ℕ, zero, suc, ◌+◌, ◌<◌, Bool, true, false, List, [], ◌∷◌, length}
use Rattle.std.proofs.Common.{drop, slice_get, Some, None, Ok, Err, refl, ap, arith, sym, ◌∙◌}
use Rattle.std.proofs.Common.{add-one}
use Rattle.star_core.specs.Dicts.{Entry}
use Rattle.star_core.specs.declared.faults.Fault.{Fault}
use Rattle.star_core.specs.declared.values.Val.{Val}
use Rattle.star_order.specs.Contained.{Rule}
use Rattle.star_order.specs.Equality.{and_equal, entries_equal, found_equal, items_equal}
use Rattle.star_order.specs.Equality.{value_under}

-- an entry before those behind it
entries_next : (same : Rule Bool) (entries others : List Entry) (index : ℕ) (entry : Entry)
    → slice_get entries index ≡ Some entry
    → entries_equal same (drop index entries) others
    ≡ and_equal (found_equal same entry.pair.value (value_under entry.content others))
    (entries_equal same (drop (suc index) entries) others)
entries_next same [] others index entry is = absurd (cc)
entries_next same (first ∷ entries) others zero entry is =
    let it : first ≡ entry = cc in
    ap (λ one. and_equal (found_equal same one.pair.value (value_under one.content others))
    (entries_equal same entries others)) it
entries_next same (first ∷ entries) others (suc index) entry is =
    entries_next same entries others index entry is

pub entries_on : (same : Rule Bool) (entries others : List Entry) (index : ℕ) (entry : Entry)
    → slice_get entries index ≡ Some entry
    → found_equal same entry.pair.value (value_under entry.content others) ≡ Ok true
    → entries_equal same (drop index entries) others ≡ entries_equal same entries others
    → entries_equal same (drop (index + 1) entries) others ≡ entries_equal same entries others
entries_on same entries others index entry is equal whole =
    rw add-one (sym (entries_next same entries others index entry is
    ∙ ap (λ one. and_equal one (entries_equal same (drop (suc index) entries) others)) equal)
    ∙ whole)

pub entries_differ : (same : Rule Bool) (entries others : List Entry) (index : ℕ) (entry : Entry)
    → slice_get entries index ≡ Some entry
    → found_equal same entry.pair.value (value_under entry.content others) ≡ Ok false
    → entries_equal same (drop index entries) others ≡ entries_equal same entries others
    → Ok false ≡ entries_equal same entries others
entries_differ same entries others index entry is equal whole =
    sym (entries_next same entries others index entry is
    ∙ ap (λ one. and_equal one (entries_equal same (drop (suc index) entries) others)) equal)
    ∙ whole

pub entries_refused : (same : Rule Bool) (entries others : List Entry) (index : ℕ) (entry : Entry)
    (reason : Fault)
    → slice_get entries index ≡ Some entry
    → found_equal same entry.pair.value (value_under entry.content others) ≡ Err reason
    → entries_equal same (drop index entries) others ≡ entries_equal same entries others
    → Err reason ≡ entries_equal same entries others
entries_refused same entries others index entry reason is equal whole =
    sym (entries_next same entries others index entry is
    ∙ ap (λ one. and_equal one (entries_equal same (drop (suc index) entries) others)) equal)
    ∙ whole

pub entries_ended : (same : Rule Bool) (entries others : List Entry) (index : ℕ)
    → slice_get entries index ≡ None
    → entries_equal same (drop index entries) others ≡ Ok true
entries_ended same [] others zero none = refl
entries_ended same [] others (suc index) none = refl
entries_ended same (entry ∷ entries) others zero none = absurd (cc)
entries_ended same (entry ∷ entries) others (suc index) none =
    entries_ended same entries others index none

-- a list that ends before the other is none of its length
pub ended_unequal : (rule : Rule Bool) (items others : List Val) (index : ℕ)
    → index < length items
    → length others < 1
    → items_equal rule (drop index items) others ≡ Ok false
ended_unequal rule (item ∷ items) [] zero within none = refl
ended_unequal rule (item ∷ items) [] (suc index) within none =
    ended_unequal rule items [] index (omega arith) none
ended_unequal rule [] others index within none = absurd (omega arith)
ended_unequal rule (item ∷ items) (other ∷ others) index within none = absurd (omega arith)
