use Rattle.std.proofs.Common.{◌≡◌, ◌-◌, length}
use Rattle.std.specs.Prelude.{is_some}
use Rattle.board_machine.specs.Boards.{next_at, walk, way_to}
use Rattle.board_slots.proofs.chains.leads_to.Given as goal

-- whether the whole way leads there is whether what is left does
abbrev pub invariant-loop-step : goal.invariant-loop-step
invariant-loop-step g l =
    is_some (way_to l.slots l.goal l.fn.place)
    ≡ is_some (walk (next_at l.slots) l.goal (length l.slots - l.step) l.at)
