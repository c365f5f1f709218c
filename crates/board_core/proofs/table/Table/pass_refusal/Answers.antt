use Rattle.std.proofs.Common.{length, ◌==◌, ◌∙◌, ◌++◌, ◌∷◌, [], ap, sym, rules}
use Rattle.std.specs.Prelude.{if◌then◌else◌, is_some}
use Rattle.std.specs.Arc.{arc_value}
use Rattle.board_machine.specs.Boards.{Job, RefusedWith, way_to}
use Rattle.board_machine.specs.Events
use Rattle.board_machine.specs.Moves.{is_job, spread_refusal, with_need}
use Rattle.board_core.proofs.Events.{asked_of, goals_kept, long_enough}
use Rattle.board_core.proofs.table.Table.pass_refusal.Goals as goal

pub invariant_of-self-2 : goal.invariant_of-self-2
invariant_of-self-2 g c =
    goals_kept (λ at slot.
    if is_some (way_to c.self.inside.jobs c.args.place at)
    then record { job = slot.job; state = RefusedWith (arc_value c.args.refusal.now) } else slot)
    c.self.inside.goals c.self.inside.jobs c.hand_out.new.self
    (c.in_ok-hand_out.ensures.handed ∙ c.in_ok-gifts.ensures)
    c.self.invariant

pub returns : goal.returns
returns g c =
    asked_of (spread_refusal c.args.place (arc_value c.args.refusal.now))
    (λ slots. with_need (is_job c.args.other) (Job c.args.other))
    c.self.inside.goals c.self.inside.jobs c.hand_out.new.self
    c.self.inside.needs.items c.put_job.new.needs.items
    (is_some c.self.inside.stop) c.self.inside.journal.events
    c.write.new.self.events c.self.inside.spent c.saturating_add-self-inside.result
    c.self.inside.journal.room c.write.new.self.room c.args.self.now
    (λ n. Events.Park c.args.worker c.args.place c.args.need) c.args.steps c.self.view_is
    (c.in_ok-hand_out.ensures.handed ∙ c.in_ok-gifts.ensures)
    (c.put_job.ensures ∙ ap (with_need (is_job c.args.other) (Job c.args.other)) c.in_ok-reserve.ensures.items)
    (c.write.ensures.written ∙ ap (λ events. events ++ Events.Park c.args.worker c.args.place c.args.need ∷ []) c.make_room.ensures.kept)
    (search rules)
    (long_enough (λ at slot.
    if is_some (way_to c.self.inside.jobs c.args.place at)
    then record { job = slot.job; state = RefusedWith (arc_value c.args.refusal.now) } else slot)
    c.self.inside.jobs c.make_room.new.self.room c.write.new.self.room (length c.slots.result.now)
    (search rules) (search rules) c.write.ensures.room)
