use Rattle.std.proofs.Common.{◌≡◌, take, length}
use Rattle.std.specs.Arc.{arc_value}
use Rattle.board_machine.specs.Boards.{map_places}
use Rattle.board_machine.specs.Moves.{shelved_state}
use Rattle.board_slots.specs.Views.{handed}
use Rattle.board_slots.proofs.handing.file_gifts.Given as goal

-- the gifts so far are those of the jobs so far
abbrev pub invariant-loop-at : goal.invariant-loop-at
invariant-loop-at g l =
    (length l.gifts.items ≡ l.at)
    × (handed l.gifts.items (take l.at l.slots) ≡ map_places (λ at slot. record { job = slot.job; state = shelved_state l.need (arc_value l.found) slot.state }) 0 (take l.at l.slots))
