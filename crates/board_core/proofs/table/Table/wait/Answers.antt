use Rattle.std.proofs.Common.{length, ◌==◌, ◌∙◌, ◌++◌, ◌∷◌, [], ap, sym, subst, rules}
use Rattle.std.specs.Prelude.{if◌then◌else◌, is_some, None}
use Rattle.board_machine.specs.Boards.{File, OnFile}
use Rattle.board_machine.specs.Events
use Rattle.board_machine.specs.Moves.{is_file, with_need}
use Rattle.board_slots.specs.Claims.{IsReturnedAt}
use Rattle.board_core.proofs.Events.{goals_kept, parked_of}
use Rattle.board_core.proofs.table.Table.wait.Goals as goal

pub invariant_of-self-2 : goal.invariant_of-self-2
invariant_of-self-2 g c =
    goals_kept (λ at slot.
    if at == c.args.held.place then record { job = slot.job; state = OnFile (g.W.Work.answers_of c.args.part) c.args.need } else slot)
    c.self.inside.goals c.self.inside.jobs c.wait_for_file.new.self
    c.in_ok-wait_for_file.ensures.waits c.self.invariant

pub returns : goal.returns
returns g c =
    parked_of (λ at slot.
    if at == c.args.held.place then record { job = slot.job; state = OnFile (g.W.Work.answers_of c.args.part) c.args.need } else slot) (with_need (is_file c.args.path) (File c.args.path None))
    c.self.inside.goals c.self.inside.jobs c.wait_for_file.new.self
    c.self.inside.needs.items c.put_file.new.needs.items
    (is_some c.self.inside.stop) c.self.inside.journal.events
    c.write.new.self.events c.self.inside.spent c.saturating_add-self-inside.result
    c.self.inside.journal.room c.make_room.new.self.room c.write.new.self.room (length c.slots.result.now)
    c.args.self.now (Events.Park c.args.held.worker c.args.held.place c.args.need) c.args.steps
    c.self.view_is c.in_ok-wait_for_file.ensures.waits (c.put_file.ensures ∙ ap (with_need (is_file c.args.path) (File c.args.path None)) c.in_ok-reserve.ensures.items)
    (c.write.ensures.written ∙ ap (λ events. events ++ Events.Park c.args.held.worker c.args.held.place c.args.need ∷ []) c.make_room.ensures.kept)
    (search rules) (search rules) (search rules) c.write.ensures.room

pub wait_for_file-requires-clause-returned : goal.wait_for_file-requires-clause-returned
wait_for_file-requires-clause-returned g c κs within =
    subst (λ t. IsReturnedAt g.W.Work.job_of g.W.Work.answers_of c.args.held c.args.part t.account.board.slots)
    (sym c.self.view_is) c.requires.returned
