use Rattle.std.proofs.Common.{◌≡◌, ◌==◌, take, length}
use Rattle.std.specs.Prelude.{if◌then◌else◌}
use Rattle.std.specs.Arc.{arc_value}
use Rattle.board_machine.specs.Boards.{Valued, map_places}
use Rattle.board_machine.specs.Moves.{woken_state}
use Rattle.board_slots.specs.Views.{handed}
use Rattle.board_slots.proofs.handing.value_gifts.Given as goal

-- the gifts so far are those of the jobs so far
abbrev pub invariant-loop-at : goal.invariant-loop-at
invariant-loop-at g l =
    (length l.gifts.items ≡ l.at)
    × (handed l.gifts.items (take l.at l.slots) ≡ map_places (λ at slot. record { job = slot.job; state = if at == l.place then Valued (arc_value l.value) else woken_state l.place (arc_value l.value) slot.state }) 0 (take l.at l.slots))
