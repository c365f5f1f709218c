use Rattle.std.proofs.Common.{◌≡◌, ◌∙◌, length, rules}
use Rattle.board_slots.proofs.GiftLists.{one_less}
use Rattle.board_slots.proofs.handing.hand_out.Goals as goal

pub gifts-preserved : goal.gifts-preserved
gifts-preserved g c =
    let here : c.len.result ≡ length c.pop.new.self.items = search rules in
    let less =
    one_less c.pop.new.self.items c.gifts.gifts.items c.in-Some.gift c.gifts.slots.items
    c.hand_one.new.slots.items c.len.result c.in-Some.ensures.items c.gifts.invariant.0
    here c.hand_one.ensures in (less.0, less.1 ∙ c.gifts.invariant.1)
