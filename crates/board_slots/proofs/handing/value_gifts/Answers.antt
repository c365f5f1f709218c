use Rattle.std.proofs.Common.{◌==◌}
use Rattle.std.specs.Prelude.{if◌then◌else◌}
use Rattle.std.specs.Arc.{arc_value}
use Rattle.board_machine.specs.Boards.{Valued}
use Rattle.board_machine.specs.Moves.{woken_state}
use Rattle.board_slots.proofs.GiftLists.{gift_step, gift_end}
use Rattle.board_slots.proofs.handing.value_gifts.Goals as goal

pub loop-at-preserved : goal.loop-at-preserved
loop-at-preserved g c =
    gift_step (λ at slot. record {
      job = slot.job;
      state =
          if at == c.args.place then Valued (arc_value c.args.value.now)
          else woken_state c.args.place (arc_value c.args.value.now) slot.state;
    })
    c.loop-at.gifts.items c.push.new.self.items c.in_ok-value_gift.field-0 c.args.slots.now
    c.loop-at.at c.index-slots-at.result c.in_ok-push.ensures.items c.loop-at-test.true
    c.index-slots-at.is c.in_ok-value_gift.ensures c.loop-at.invariant

pub returns-clause-handed : goal.returns-clause-handed
returns-clause-handed g c =
    gift_end (λ at slot. record {
      job = slot.job;
      state =
          if at == c.args.place then Valued (arc_value c.args.value.now)
          else woken_state c.args.place (arc_value c.args.value.now) slot.state;
    })
    c.loop-at.gifts.items c.args.slots.now c.loop-at.at c.loop-at-test.false c.loop-at.invariant
