use Rattle.std.proofs.Common.{◌≡◌, refl, sym, subst, map, string_bytes}
use Rattle.board_jobs.specs.Gifts.{places_of}
use Rattle.board_jobs.specs.Indexes.{AreReady}
use Rattle.board_jobs.proofs.Indexed.{indexed_given, indexed_wider}
use Rattle.board_jobs.proofs.jobs.Jobs.hand_out.Goals as goal

pub invariant_of-self : goal.invariant_of-self
invariant_of-self g c =
    let slots = c.self.inside.slots.items in
    indexed_wider (g.W.Work.meaning g.N.BoardOf.work).text
    (map string_bytes c.self.inside.texts.keys) c.self.inside.index c.ready_for.new.index slots slots
    refl c.ready_for.ensures.wider c.self.invariant

pub invariant_of-self-2 : goal.invariant_of-self-2
invariant_of-self-2 g c =
    indexed_given (g.W.Work.meaning g.N.BoardOf.work).text
    (map string_bytes c.self.inside.texts.keys) c.self.inside.index c.ready_for.new.index
    c.self.inside.slots.items c.hand_out.new.slots.items c.args.gifts.items c.hand_out.ensures
    c.ready_for.ensures.wider
    (subst (λ gifts. AreReady c.ready_for.new.index (places_of gifts)) c.as_slice.ensures.value
    c.in_ok-ready_for.ensures.ready)
    c.self.invariant
