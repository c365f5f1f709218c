use Rattle.std.proofs.Common.{drop}
use Rattle.board_jobs.proofs.Indexed.{ReadyBut}
use Rattle.board_jobs.proofs.ready.ready_for.Given as goal

-- what is left has the places that aren't ready yet
abbrev pub invariant-loop-at : goal.invariant-loop-at
invariant-loop-at g l = ReadyBut l.fn.index l.index l.gifts (drop l.at l.gifts)
