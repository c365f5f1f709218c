use Rattle.std.proofs.Common.{drop}
use Rattle.std.specs.Arc.{arc_value}
use Rattle.board_jobs.proofs.Handing.{FileMade}
use Rattle.board_jobs.proofs.gifts.file_gifts.Given as goal

-- the gifts are right, and what is left to look at has those for which there is none yet
abbrev pub invariant-loop-at : goal.invariant-loop-at
invariant-loop-at g l = FileMade l.slots l.need (arc_value l.found) (drop l.at-index l.reading) l.gifts.items
