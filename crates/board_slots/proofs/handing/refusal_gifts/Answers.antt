use Rattle.std.proofs.Common.{◌∙◌, ap}
use Rattle.std.specs.Prelude.{if◌then◌else◌, is_some}
use Rattle.std.specs.Arc.{arc_value}
use Rattle.board_machine.specs.Boards.{RefusedWith, way_to}
use Rattle.board_slots.proofs.GiftLists.{gift_step, gift_end}
use Rattle.board_slots.proofs.handing.refusal_gifts.Goals as goal

pub loop-at-preserved : goal.loop-at-preserved
loop-at-preserved g c =
    gift_step (λ at slot.
    if is_some (way_to c.args.slots.now c.args.place at)
    then record { job = slot.job; state = RefusedWith (arc_value c.args.refusal.now) }
    else slot)
    c.loop-at.gifts.items c.push.new.self.items c.in_ok-refusal_gift.field-0 c.args.slots.now
    c.loop-at.at c.index-slots-at.result c.in_ok-push.ensures.items c.loop-at-test.true
    c.index-slots-at.is (c.in_ok-refusal_gift.ensures c.index-slots-at.result
    ∙ ap (λ b. if b then record { job = c.index-slots-at.result.job; state = RefusedWith (arc_value c.args.refusal.now) } else c.index-slots-at.result)
    c.leads_to.ensures) c.loop-at.invariant

pub returns-clause-handed : goal.returns-clause-handed
returns-clause-handed g c =
    gift_end (λ at slot.
    if is_some (way_to c.args.slots.now c.args.place at)
    then record { job = slot.job; state = RefusedWith (arc_value c.args.refusal.now) }
    else slot)
    c.loop-at.gifts.items c.args.slots.now c.loop-at.at c.loop-at-test.false c.loop-at.invariant
