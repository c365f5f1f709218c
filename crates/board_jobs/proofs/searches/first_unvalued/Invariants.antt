use Rattle.std.proofs.Common.{length, ◌-◌}
use Rattle.board_jobs.specs.Indexes.{AreValued}
use Rattle.board_jobs.proofs.searches.first_unvalued.Given as goal

-- so many first jobs have values
abbrev pub invariant-jobs : goal.invariant-jobs
invariant-jobs g l = AreValued l.valued l.slots

abbrev pub decreases-jobs : goal.decreases-jobs
decreases-jobs g l = length l.slots - l.valued
