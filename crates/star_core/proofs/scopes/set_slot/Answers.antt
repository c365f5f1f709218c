use Rattle.std.proofs.Common.{arith}
use Rattle.star_core.proofs.Slots.{set_there, set_behind}
use Rattle.star_core.proofs.scopes.set_slot.Goals as goal

pub returns-then-slot-len : goal.returns-then-slot-len
returns-then-slot-len c = rw c.set.ensures (set_there _ _ _ (omega arith))

pub returns : goal.returns
returns c = rw (c.in_ok-push.ensures.ok, c.in_ok-leave_unset.ensures)
    (set_behind _ _ _ _ (omega arith))
