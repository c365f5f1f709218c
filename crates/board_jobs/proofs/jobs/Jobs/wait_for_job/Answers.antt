use Rattle.std.proofs.Common.{◌≡◌, ◌∷◌, refl, sym, subst, map, string_bytes}
use Rattle.board_machine.specs.Boards.{Queued, OnFile, OnJob}
use Rattle.board_slots.specs.Claims.{IsReturnedAt}
use Rattle.board_work.specs.Turns.{answer_of}
use Rattle.board_jobs.proofs.Fitting.{queued_suits, reading_suits, waiting_suits}
use Rattle.board_jobs.proofs.Indexed.{indexed_set, indexed_wider}
use Rattle.board_jobs.proofs.jobs.Jobs.wait_for_job.Goals as goal

pub wait_for_job-requires-clause-returned : goal.wait_for_job-requires-clause-returned
wait_for_job-requires-clause-returned g c κs within =
    subst (λ slots. IsReturnedAt g.W.Work.job_of g.W.Work.answers_of c.args.held c.args.part slots)
    (sym c.self.view_is) c.requires.returned

pub invariant_of-self : goal.invariant_of-self
invariant_of-self g c =
    let slots = c.self.inside.slots.items in
    indexed_wider (g.W.Work.meaning g.N.BoardOf.work).text
    (map string_bytes c.self.inside.texts.keys) c.self.inside.index c.ready_to_wait.new.index slots slots refl
    c.ready_to_wait.ensures.wider c.self.invariant

pub invariant_of-self-2 : goal.invariant_of-self-2
invariant_of-self-2 g c =
    let answers = g.W.Work.answers_of c.args.part in
    indexed_set (g.W.Work.meaning g.N.BoardOf.work).text
    (map string_bytes c.self.inside.texts.keys) c.self.inside.index c.ready_to_wait.new.index
    c.self.inside.slots.items c.wait_for_job.new.slots.items c.args.held.place
    (OnJob answers c.args.need c.args.other) c.wait_for_job.ensures c.ready_to_wait.ensures.wider
    (waiting_suits c.ready_to_wait.new.index c.args.held.place answers c.args.need c.args.other c.in_ok-ready_to_wait.ensures.there c.in_ok-ready_to_wait.ensures.low)
    c.self.invariant
