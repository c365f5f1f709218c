use Rattle.std.proofs.Common.{drop}
use Rattle.std.specs.Arc.{arc_value}
use Rattle.board_jobs.proofs.Handing.{ValueMade}
use Rattle.board_jobs.proofs.gifts.value_gifts.Given as goal

-- the gifts are right, and what is left to look at has those for which there is none yet
abbrev pub invariant-loop-at : goal.invariant-loop-at
invariant-loop-at g l = ValueMade l.slots l.place (arc_value l.value) (drop l.at-index l.waiting) l.gifts.items
