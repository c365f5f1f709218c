use Rattle.std.proofs.Common.{◌≡◌, ◌<◌, sym, subst, length, map, string_bytes}
use Rattle.board_jobs.specs.Taking.{IsQueuedAt, IsTakenAt}
use Rattle.board_jobs.proofs.Indexed.{indexed_taken}
use Rattle.board_jobs.proofs.jobs.Jobs.take.Goals as goal

pub invariant_of-self : goal.invariant_of-self
invariant_of-self g c =
    indexed_taken g.W.Work.job_of g.W.Work.answers_of c.args.worker c.args.place
    (g.W.Work.meaning g.N.BoardOf.work).text (map string_bytes c.self.inside.texts.keys)
    c.self.inside.index c.self.inside.slots.items c.take_at.new.slots.items c.take_at.result
    (subst (λ slots. c.args.place < length slots) (sym c.self.view_is) c.requires.within)
    (subst (λ slots. IsQueuedAt c.args.place slots) (sym c.self.view_is) c.requires.queued)
    c.take_at.ensures.taken c.self.invariant

pub returns-clause-taken : goal.returns-clause-taken
returns-clause-taken g c =
    subst (λ slots. IsTakenAt g.W.Work.job_of g.W.Work.answers_of c.args.worker c.args.place slots
    c.take_at.new.slots.items c.take_at.result) c.self.view_is c.take_at.ensures.taken
