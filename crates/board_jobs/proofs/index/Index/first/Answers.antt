use Rattle.std.proofs.Common.{sym, subst}
use Rattle.board_jobs.specs.Indexes.{Has}
use Rattle.board_jobs.proofs.IndexLists.{least-all}
use Rattle.board_jobs.proofs.index.Index.first.Goals as goal

pub returns-in-Some-clause-least : goal.returns-in-Some-clause-least
returns-in-Some-clause-least c = λ at has.
    least-all c.in-Some.place.now c.self.inside.queue.keys c.in-Some.ensures.all_from at
    (subst (λ index. Has at index.queue) (sym c.self.view_is) has)
