use Rattle.board_core.proofs.Keeping.{halted_kept}
use Rattle.board_core.proofs.board.Board.halt.Goals as goal

pub invariant_of-self : goal.invariant_of-self
invariant_of-self g c =
    halted_kept (g.W.Work.meaning g.N.BoardOf.work) g.N.BoardOf.files g.N.BoardOf.goals
    (λ file. (g.met.W.Work g.world.𝓛 g.world.𝓜 g.world.𝓡 ((λ s x. x), (λ x. x), (λ x. x), λ x. x)).lawful g.N.BoardOf.work file)
    c.self.inside.table c.halt.new.self c.halt.ensures.halted c.halt.ensures.room
    c.halt.ensures.same c.self.invariant
