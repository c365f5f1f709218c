use Rattle.std.proofs.Common.{◌≡◌, ◌<◌, ◌==◌, ◌∙◌, ◌++◌, ◌∷◌, [], ap, length, refl, sym, subst, rules}
use Rattle.std.specs.List.{position_or_len}
use Rattle.std.specs.Prelude.{if◌then◌else◌, is_some}
use Rattle.board_machine.specs.Boards.{Job, OnJob}
use Rattle.board_machine.specs.Events
use Rattle.board_machine.specs.Moves.{is_job, set_state, with_need}
use Rattle.board_slots.specs.Claims.{IsReturnedAt}
use Rattle.board_jobs.specs.Taking.{with_new}
use Rattle.board_core.proofs.Events.{asked_of, pushed_enough, pushed_goals}
use Rattle.board_core.proofs.table.Table.wait_for_new.Goals as goal

pub returns : goal.returns
returns g c =
    let slots = c.self.inside.jobs in
    let len : length c.slots-other.result.now ≡ length slots = ap length c.slots-other.ensures in
    let answers = g.W.Work.answers_of c.args.part in
    asked_of (λ slots. set_state c.args.held.place (OnJob (g.W.Work.answers_of c.args.part) c.args.need (length slots)) (with_new c.args.asked slots))
    (λ slots. with_need (is_job (length slots)) (Job (length slots)))
    c.self.inside.goals slots c.wait_for_new.new.self
    c.self.inside.needs.items c.put_job.new.needs.items
    (is_some c.self.inside.stop) c.self.inside.journal.events
    c.write.new.self.events c.self.inside.spent c.saturating_add-self-inside.result
    c.self.inside.journal.room c.write.new.self.room c.args.self.now
    (λ n. Events.Park c.args.held.worker c.args.held.place c.args.need) c.args.steps c.self.view_is
    c.in_ok-wait_for_new.ensures.waits
    (c.put_job.ensures
    ∙ ap (λ n. with_need (is_job n) (Job n) c.reserve.new.self.items) len
    ∙ ap (with_need (is_job (length slots)) (Job (length slots))) c.in_ok-reserve.ensures.items)
    (c.write.ensures.written ∙ ap (λ events. events ++ Events.Park c.args.held.worker c.args.held.place c.args.need ∷ []) c.make_room.ensures.kept)
    (search rules)
    (pushed_enough (λ at slot.
    if at == c.args.held.place then record { job = slot.job; state = OnJob (g.W.Work.answers_of c.args.part) c.args.need (length slots) } else slot)
    slots c.args.asked c.make_room.new.self.room c.write.new.self.room
    (length c.slots-other.result.now) len (search rules) c.write.ensures.room)

pub put_job-requires-clause-number : goal.put_job-requires-clause-number
put_job-requires-clause-number g c =
    let len : length c.slots-other.result.now ≡ length c.self.inside.jobs =
    ap length c.slots-other.ensures in
    c.requires.number
    ∙ ap (λ t. position_or_len (is_job (length t.account.board.slots)) t.account.board.needs) (sym c.self.view_is)
    ∙ ap (λ n. position_or_len (is_job n) c.self.inside.needs.items) (sym len)
    ∙ ap (position_or_len (is_job (length c.slots-other.result.now))) (sym c.in_ok-reserve.ensures.items)

pub invariant_of-self-2 : goal.invariant_of-self-2
invariant_of-self-2 g c =
    pushed_goals (λ at slot.
    if at == c.args.held.place then record { job = slot.job; state = OnJob (g.W.Work.answers_of c.args.part) c.args.need (length c.self.inside.jobs) } else slot)
    c.self.inside.goals c.self.inside.jobs c.wait_for_new.new.self
    (with_new c.args.asked c.self.inside.jobs) c.args.asked refl
    c.in_ok-wait_for_new.ensures.waits c.self.invariant
