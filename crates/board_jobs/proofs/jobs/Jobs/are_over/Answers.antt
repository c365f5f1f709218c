use Rattle.std.proofs.Common.{subst}
use Rattle.board_jobs.specs.Indexes.{AllFit}
use Rattle.board_jobs.proofs.jobs.Jobs.are_over.Goals as goal

pub invariant_of-self : goal.invariant_of-self
invariant_of-self g c =
    record {
      named = c.self.invariant.named;
      fits = subst (λ slots. AllFit c.are_over.new.index slots) c.deref.ensures.value
          c.are_over.ensures.fits;
    }
