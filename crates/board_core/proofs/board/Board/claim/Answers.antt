use Rattle.board_core.proofs.Keeping.{claimed_given, claimed_kept}
use Rattle.board_core.proofs.board.Board.claim.Goals as goal

pub invariant_of-self : goal.invariant_of-self
invariant_of-self g c =
    claimed_kept (g.W.Work.meaning g.N.BoardOf.work) g.N.BoardOf.files g.N.BoardOf.goals
    (λ file. (g.met.W.Work g.world.𝓛 g.world.𝓜 g.world.𝓡 ((λ s x. x), (λ x. x), (λ x. x), λ x. x)).lawful g.N.BoardOf.work file)
    g.W.Work.job_of g.W.Work.answers_of c.args.worker c.self.inside.table c.claim.new.self
    c.claim.result c.claim.ensures.gives c.claim.ensures.room c.self.invariant

pub returns-clause-given : goal.returns-clause-given
returns-clause-given g c =
    λ file is. claimed_given (g.W.Work.meaning g.N.BoardOf.work) g.N.BoardOf.files g.N.BoardOf.goals
    (λ file. (g.met.W.Work g.world.𝓛 g.world.𝓜 g.world.𝓡 ((λ s x. x), (λ x. x), (λ x. x), λ x. x)).lawful g.N.BoardOf.work file)
    g.W.Work.job_of g.W.Work.answers_of c.args.worker c.self.inside.table c.claim.new.self
    c.claim.result file is c.claim.ensures.gives c.self.invariant
