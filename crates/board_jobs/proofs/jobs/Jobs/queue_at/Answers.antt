use Rattle.std.proofs.Common.{◌≡◌, ◌∷◌, refl, sym, subst, map, string_bytes}
use Rattle.board_machine.specs.Boards.{Queued, OnFile, OnJob}
use Rattle.board_slots.specs.Claims.{IsReturnedAt}
use Rattle.board_work.specs.Turns.{answer_of}
use Rattle.board_jobs.proofs.Fitting.{queued_suits, reading_suits, waiting_suits}
use Rattle.board_jobs.proofs.Indexed.{indexed_set, indexed_wider}
use Rattle.board_jobs.proofs.jobs.Jobs.queue_at.Goals as goal

pub queue_at-requires-clause-returned : goal.queue_at-requires-clause-returned
queue_at-requires-clause-returned g c κs within =
    subst (λ slots. IsReturnedAt g.W.Work.job_of g.W.Work.answers_of c.args.held c.args.part slots)
    (sym c.self.view_is) c.requires.returned

pub invariant_of-self : goal.invariant_of-self
invariant_of-self g c =
    let slots = c.self.inside.slots.items in
    indexed_wider (g.W.Work.meaning g.N.BoardOf.work).text
    (map string_bytes c.self.inside.texts.keys) c.self.inside.index c.ready_at.new.index slots slots refl
    c.ready_at.ensures.wider c.self.invariant

pub invariant_of-self-2 : goal.invariant_of-self-2
invariant_of-self-2 g c =
    let answers = g.W.Work.answers_of c.args.part in
    indexed_set (g.W.Work.meaning g.N.BoardOf.work).text
    (map string_bytes c.self.inside.texts.keys) c.self.inside.index c.ready_at.new.index
    c.self.inside.slots.items c.queue_at.new.slots.items c.args.held.place
    (Queued (answer_of c.args.given ∷ answers)) c.queue_at.ensures c.ready_at.ensures.wider
    (queued_suits c.ready_at.new.index c.args.held.place (answer_of c.args.given ∷ answers) c.in_ok-ready_at.ensures.there c.in_ok-ready_at.ensures.low)
    c.self.invariant
