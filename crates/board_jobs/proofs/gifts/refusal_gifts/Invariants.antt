use Rattle.std.specs.Arc.{arc_value}
use Rattle.board_jobs.proofs.Handing.{RefusalMade}
use Rattle.board_jobs.proofs.gifts.refusal_gifts.Given as goal

-- the gifts are those of the jobs so far
abbrev pub invariant-loop-at : goal.invariant-loop-at
invariant-loop-at g l = RefusalMade l.slots l.place (arc_value l.refusal) l.at l.gifts.items
