use Rattle.std.proofs.Common.{◌≡◌, ◌+◌, drop}
use Rattle.board_machine.specs.Moves.{first_queued}
use Rattle.board_slots.proofs.jobs.first_queued.Given as goal

abbrev pub invariant-loop-place : goal.invariant-loop-place
invariant-loop-place g l = first_queued l.slots ≡ l.place + first_queued (drop l.place l.slots)
