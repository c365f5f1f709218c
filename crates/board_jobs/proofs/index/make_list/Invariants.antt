use Rattle.std.proofs.Common.{length, ◌-◌, ◌+◌}
use Rattle.board_jobs.specs.Indexes.{HasAll}
use Rattle.board_jobs.proofs.index.make_list.Given as goal

-- nothing is lost
abbrev pub invariant-lists : goal.invariant-lists
invariant-lists l = HasAll l.fn.lists.items l.lists.items

abbrev pub decreases-lists : goal.decreases-lists
decreases-lists l = (l.at + 1) - length l.lists.items
