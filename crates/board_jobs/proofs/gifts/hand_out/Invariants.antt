use Rattle.std.proofs.Common.{◌≡◌, length}
use Rattle.board_jobs.specs.Gifts.{all_handed}
use Rattle.board_jobs.proofs.gifts.hand_out.Given as goal

-- what is left to hand out makes the whole of what stands now
abbrev pub invariant-gifts : goal.invariant-gifts
invariant-gifts g l =
    all_handed l.gifts.items l.slots.items ≡ all_handed l.fn.gifts.items l.fn.slots.items

abbrev pub decreases-gifts : goal.decreases-gifts
decreases-gifts g l = length l.gifts.items
