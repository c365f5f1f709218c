use Rattle.std.proofs.Common.{◌≡◌, ◌∙◌, length, arith, ap, sym}
use Rattle.std.specs.Arc.{arc_value}
use Rattle.board_jobs.proofs.Handing.{refusal_made, refusal_more, refusal_none}
use Rattle.board_jobs.proofs.gifts.refusal_gifts.Goals as goal

pub loop-at-init : goal.loop-at-init
loop-at-init g c =
    refusal_none c.args.slots.now c.args.place (arc_value c.args.refusal.now) _ c.new-gifts.ensures.items

pub loop-at-preserved : goal.loop-at-preserved
loop-at-preserved g c =
    refusal_more c.args.slots.now c.args.place (arc_value c.args.refusal.now) c.loop-at.at
    c.loop-at.gifts.items c.add_refused.new.gifts.items c.in_ok-add_refused.ensures
    c.loop-at.invariant

pub returns : goal.returns
returns g c =
    refusal_made c.args.slots.now c.args.place (arc_value c.args.refusal.now) c.loop-at.at
    c.loop-at.gifts.items c.loop-at-test.false c.loop-at.invariant
