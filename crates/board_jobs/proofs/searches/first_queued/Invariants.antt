use Rattle.std.proofs.Common.{length}
use Rattle.board_jobs.specs.Indexes.{AllFit}
use Rattle.board_jobs.proofs.searches.first_queued.Given as goal

-- the index has what there is to say of each job
abbrev pub invariant-places : goal.invariant-places
invariant-places g l = AllFit l.index l.slots

abbrev pub decreases-places : goal.decreases-places
decreases-places g l = length l.index.queue
