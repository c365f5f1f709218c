use Rattle.std.proofs.Common.{◌≡◌, drop}
use Rattle.board_machine.specs.Moves.{goals_over}
use Rattle.board_slots.proofs.jobs.are_over.Given as goal

abbrev pub invariant-loop-slot : goal.invariant-loop-slot
invariant-loop-slot g l = goals_over l.goals ≡ goals_over (drop l.slot-index l.goals)
