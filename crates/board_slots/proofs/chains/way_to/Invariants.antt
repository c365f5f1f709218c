use Rattle.std.proofs.Common.{◌≡◌, ◌-◌, ◌++◌, length, option_map}
use Rattle.board_machine.specs.Boards.{next_at, walk, way_to}
use Rattle.board_slots.proofs.chains.way_to.Given as goal

-- the whole way is what was gone and what is left
abbrev pub invariant-loop-step : goal.invariant-loop-step
invariant-loop-step g l =
    way_to l.slots l.goal l.fn.place
    ≡ option_map (λ rest. l.places.items ++ rest)
    (walk (next_at l.slots) l.goal (length l.slots - l.step) l.at)
