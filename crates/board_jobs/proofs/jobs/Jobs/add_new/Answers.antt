use Rattle.std.proofs.Common.{◌≡◌, ◌∙◌, ◌∷◌, ◌≤◌, ap, sym, subst, length, map, string_bytes, rules}
use Rattle.std.specs.List.{position_or_len}
use Rattle.std.specs.Str.{bytes_eq}
use Rattle.board_machine.specs.Moves.{place_of}
use Rattle.board_slots.specs.Views.{bare_rules}
use Rattle.board_jobs.specs.Indexes.{Has, IsIndexed}
use Rattle.board_jobs.specs.Taking.{with_new}
use Rattle.board_jobs.proofs.Indexed.{indexed_new, indexed_wider, texts_more}
use Rattle.board_jobs.proofs.jobs.Jobs.add_new.Goals as goal

pub invariant_of-self-in_err-ready_at : goal.invariant_of-self-in_err-ready_at
invariant_of-self-in_err-ready_at g c =
    indexed_wider (g.W.Work.meaning g.N.BoardOf.work).text
    (map string_bytes c.self.inside.texts.keys) c.self.inside.index c.ready_at.new.index
    c.self.inside.slots.items c.reserve.new.self.items c.in_ok-reserve.ensures.items
    c.ready_at.ensures.wider c.self.invariant

pub invariant_of-self-in_err-add_text : goal.invariant_of-self-in_err-add_text
invariant_of-self-in_err-add_text g c =
    let text = (g.W.Work.meaning g.N.BoardOf.work).text in
    subst (λ keys. IsIndexed text (map string_bytes keys) c.ready_at.new.index c.reserve.new.self.items)
    (sym c.in_err-add_text.ensures.unchanged)
    (indexed_wider text (map string_bytes c.self.inside.texts.keys) c.self.inside.index
    c.ready_at.new.index c.self.inside.slots.items c.reserve.new.self.items
    c.in_ok-reserve.ensures.items c.ready_at.ensures.wider c.self.invariant)

pub invariant_of-self-2 : goal.invariant_of-self-2
invariant_of-self-2 g c =
    let meaning = g.W.Work.meaning in
    let text = (meaning g.N.BoardOf.work).text in
    let slots = c.self.inside.slots.items in
    let long : c.len-place.result ≡ length slots = search rules in
    indexed_new text (map string_bytes c.self.inside.texts.keys)
    (map string_bytes c.add_text.new.texts.keys) c.self.inside.index c.ready_at.new.index slots
    c.push_job.new.slots.items c.args.job.now
    (texts_more text c.args.job.now c.into_string-text.result c.self.inside.texts.keys
    c.add_text.new.texts.keys slots c.args.self.now (sym c.self.view_is)
    c.in_ok-add_text.ensures.added
    (c.into_string-text.ensures ∙ c.in_ok-of.ensures ∙ c.text.ensures
    ∙ ap (λ work. (meaning work).text c.args.job.now) c.requires.named) c.self.invariant.named
    (subst (λ work. position_or_len (λ slot. bytes_eq ((meaning work).text c.args.job.now) ((meaning work).text slot.job)) c.args.self.now ≡ length c.args.self.now) c.requires.named c.requires.new))
    (c.push_job.ensures ∙ ap (with_new c.in_ok-one.one) c.in_ok-reserve.ensures.items
    ∙ ap (λ job. with_new job slots) c.in_ok-one.ensures)
    c.ready_at.ensures.wider
    (subst (λ n. Has n c.ready_at.new.index.queue) long c.in_ok-ready_at.ensures.there)
    (subst (λ n. c.ready_at.new.index.valued ≤ n) long c.in_ok-ready_at.ensures.low)
    c.self.invariant
