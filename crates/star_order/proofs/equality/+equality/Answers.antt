use Rattle.std.proofs.Common.{◌≡◌, ◌∙◌, false, length, nat_eq, refl, sym, true, ap, arith}
use Rattle.std.proofs.Common.{Err, Ok}
use Rattle.std.proofs.lemmas.Bool.Decides.{nat_tests}
use Rattle.star_core.specs.Dicts.{Entry}
use Rattle.star_order.specs.Equality.{equal_within, found_equal, value_under}
use Rattle.star_order.proofs.EntryWalks.{ended_unequal, entries_differ, entries_ended, entries_on}
use Rattle.star_order.proofs.EntryWalks.{entries_refused}
use Rattle.star_order.proofs.Layers.{equal_inside_none, equal_inside_some, equal_within_layer}
use Rattle.star_order.proofs.equality.+equality.Goals as goal

pub equal_within-returns : goal.equal_within-returns
equal_within-returns t c =
    c.values_equal.ensures
    ∙ sym (equal_within_layer c.args.depth c.args.heap.now c.args.left.now c.args.right.now)

pub items_equal-returns-in_default : goal.items_equal-returns-in_default
items_equal-returns-in_default t c =
    sym (ended_unequal (equal_within c.args.depth c.args.heap.now) c.args.items.now
    c.comparing.rest.now c.comparing.item-index c.comparing-test.true c.in_default.len_below)
    ∙ c.comparing.invariant

pub lists_equal-returns-then-depth-eq0 : goal.lists_equal-returns-then-depth-eq0
lists_equal-returns-then-depth-eq0 t c = rw (c.if-depth-eq0.true, equal_inside_none) refl

pub lists_equal-returns-then-items-others : goal.lists_equal-returns-then-items-others
lists_equal-returns-then-items-others t c =
    let apart : nat_eq (length c.args.items.now) (length c.args.others.now) ≡ false =
    grind (arith, nat_tests) in
    rw (equal_inside_some c.args.depth c.args.heap.now (omega arith), apart) refl

pub lists_equal-returns : goal.lists_equal-returns
lists_equal-returns t c =
    let alike : nat_eq (length c.args.items.now) (length c.args.others.now) ≡ true =
    grind (arith, nat_tests) in
    rw (equal_inside_some c.args.depth c.args.heap.now (omega arith), alike)
    c.items_equal.ensures

pub structs_equal-returns-then-depth-eq0 : goal.structs_equal-returns-then-depth-eq0
structs_equal-returns-then-depth-eq0 t c = rw (c.if-depth-eq0.true, equal_inside_none) refl

pub structs_equal-returns-then-fields-others : goal.structs_equal-returns-then-fields-others
structs_equal-returns-then-fields-others t c =
    let apart : nat_eq (length c.args.fields.now) (length c.args.others.now) ≡ false =
    grind (arith, nat_tests) in
    rw (equal_inside_some c.args.depth c.args.heap.now (omega arith), apart) refl

pub structs_equal-returns : goal.structs_equal-returns
structs_equal-returns t c =
    let alike : nat_eq (length c.args.fields.now) (length c.args.others.now) ≡ true =
    grind (arith, nat_tests) in
    rw (equal_inside_some c.args.depth c.args.heap.now (omega arith), alike)
    c.fields_equal.ensures

pub dicts_equal-returns-then-depth-eq0 : goal.dicts_equal-returns-then-depth-eq0
dicts_equal-returns-then-depth-eq0 t c = rw (c.if-depth-eq0.true, equal_inside_none) refl

pub dicts_equal-returns-then-len : goal.dicts_equal-returns-then-len
dicts_equal-returns-then-len t c =
    let apart : nat_eq (length c.args.dict.now) (length c.args.other.now) ≡ false =
    grind (arith, nat_tests) in
    rw (equal_inside_some c.args.depth c.args.heap.now (omega arith), apart) refl

pub dicts_equal-returns : goal.dicts_equal-returns
dicts_equal-returns t c =
    let alike : nat_eq (length c.args.dict.now) (length c.args.other.now) ≡ true =
    grind (arith, nat_tests) in
    rw (equal_inside_some c.args.depth c.args.heap.now (omega arith), alike)
    c.entries_equal.ensures

pub entries_equal-returns-in_default : goal.entries_equal-returns-in_default
entries_equal-returns-in_default t c =
    sym (entries_ended (equal_within c.args.depth c.args.heap.now) c.args.dict.now c.args.other.now
    c.comparing.index c.in_default.ensures.absent) ∙ c.comparing.invariant

pub entries_equal-returns-in-Ok-false : goal.entries_equal-returns-in-Ok-false
entries_equal-returns-in-Ok-false t c =
    let entry : Entry = record { content = c.in-Some.content.now; pair = c.in-Some.pair.now } in
    let found : found_equal (equal_within c.args.depth c.args.heap.now) entry.pair.value
    (value_under entry.content c.args.other.now) ≡ Ok false =
    ap (found_equal (equal_within c.args.depth c.args.heap.now) entry.pair.value)
    (sym c.value_under.ensures)
    ∙ sym c.found_equal.ensures
    ∙ c.in-Ok-false.is ∙ ap Ok c.in-Ok-false.field-0-test in
    entries_differ (equal_within c.args.depth c.args.heap.now) c.args.dict.now c.args.other.now
    c.comparing.index entry c.in-Some.ensures.entry found c.comparing.invariant

pub entries_equal-returns-in-Err : goal.entries_equal-returns-in-Err
entries_equal-returns-in-Err t c =
    let entry : Entry = record { content = c.in-Some.content.now; pair = c.in-Some.pair.now } in
    let found : found_equal (equal_within c.args.depth c.args.heap.now) entry.pair.value
    (value_under entry.content c.args.other.now) ≡ Err c.in-Err.reason =
    ap (found_equal (equal_within c.args.depth c.args.heap.now) entry.pair.value)
    (sym c.value_under.ensures) ∙ sym c.found_equal.ensures ∙ c.in-Err.is in
    entries_refused (equal_within c.args.depth c.args.heap.now) c.args.dict.now c.args.other.now
    c.comparing.index entry c.in-Err.reason c.in-Some.ensures.entry found c.comparing.invariant

pub entries_equal-comparing-preserved : goal.entries_equal-comparing-preserved
entries_equal-comparing-preserved t c =
    let entry : Entry = record { content = c.in-Some.content.now; pair = c.in-Some.pair.now } in
    let found : found_equal (equal_within c.args.depth c.args.heap.now) entry.pair.value
    (value_under entry.content c.args.other.now) ≡ Ok true =
    ap (found_equal (equal_within c.args.depth c.args.heap.now) entry.pair.value)
    (sym c.value_under.ensures)
    ∙ sym c.found_equal.ensures
    ∙ c.in-Ok-true.is ∙ ap Ok c.in-Ok-true.field-0-test in
    entries_on (equal_within c.args.depth c.args.heap.now) c.args.dict.now c.args.other.now
    c.comparing.index entry c.in-Some.ensures.entry found c.comparing.invariant
