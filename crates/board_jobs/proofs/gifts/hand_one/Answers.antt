use Rattle.std.proofs.Common.{◌≡◌, ◌∙◌, ap, sym, refl, arith, length, rules, slice_get, slice_set, Some}
use Rattle.std.proofs.lemmas.Option.{slice_get_read}
use Rattle.board_machine.proofs.Slots.{put-set}
use Rattle.board_jobs.specs.Gifts.{given_slot}
use Rattle.board_jobs.proofs.Handing.{handed_past}
use Rattle.board_jobs.proofs.gifts.hand_one.Goals as goal

pub returns-then-place-len : goal.returns-then-place-len
returns-then-place-len g c =
    let slots = c.args.slots.now.items in
    let here = c.index_mut-slot.result.now in
    let stood : slice_get slots c.args.place ≡ Some here =
    slice_get_read slots (length slots) c.args.place here refl (search rules)
    c.index_mut-slot.ensures.value in
    ap (slice_set slots c.args.place) c.take.ensures
    ∙ sym (put-set (given_slot c.args.gift) slots c.args.place here stood)

pub returns-else-place-len : goal.returns-else-place-len
returns-else-place-len g c =
    let past = c.if-place-len.false in
    let len : c.len.result ≡ length c.args.slots.now.items = search rules in
    handed_past c.args.place c.args.gift c.args.slots.now.items (omega (arith, past, len))
