use Rattle.board_slots.proofs.GiftLists.{set-itself}
use Rattle.board_slots.proofs.handing.hand_one.Goals as goal

pub returns-in_default : goal.returns-in_default
returns-in_default g c =
    λ slot stood. rw c.in_default.is (set-itself c.args.slots.now.items c.args.place slot stood)
