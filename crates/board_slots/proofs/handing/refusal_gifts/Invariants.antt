use Rattle.std.proofs.Common.{◌≡◌, take, length}
use Rattle.std.specs.Prelude.{if◌then◌else◌, is_some}
use Rattle.std.specs.Arc.{arc_value}
use Rattle.board_machine.specs.Boards.{RefusedWith, map_places, way_to}
use Rattle.board_slots.specs.Views.{handed}
use Rattle.board_slots.proofs.handing.refusal_gifts.Given as goal

-- the gifts so far are those of the jobs so far
abbrev pub invariant-loop-at : goal.invariant-loop-at
invariant-loop-at g l =
    (length l.gifts.items ≡ l.at)
    × (handed l.gifts.items (take l.at l.slots) ≡ map_places (λ at slot. if is_some (way_to l.slots l.place at) then record { job = slot.job; state = RefusedWith (arc_value l.refusal) } else slot) 0 (take l.at l.slots))
