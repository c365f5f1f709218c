use Rattle.std.proofs.Common.{◌∙◌, ap, sym}
use Rattle.board_jobs.specs.Gifts.{all_handed}
use Rattle.board_jobs.proofs.Handing.{handed-last}
use Rattle.board_jobs.proofs.gifts.hand_out.Goals as goal

pub gifts-preserved : goal.gifts-preserved
gifts-preserved g c =
    ap (all_handed c.pop.new.self.items) c.hand_one.ensures
    ∙ sym (handed-last c.pop.new.self.items c.in-Some.place c.in-Some.gift c.gifts.slots.items)
    ∙ ap (λ gifts. all_handed gifts c.gifts.slots.items) (sym c.in-Some.ensures.items)
    ∙ c.gifts.invariant
