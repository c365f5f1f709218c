use Rattle.std.proofs.Common.{◌≡◌, ◌<◌, ◌∙◌, ◌∷◌, ◌≤◌, [], ap, refl, sym, subst, length, map, string_bytes, rules}
use Rattle.std.specs.List.{position_or_len}
use Rattle.std.specs.Str.{bytes_eq}
use Rattle.board_machine.specs.Boards.{OnJob}
use Rattle.board_machine.specs.Moves.{set_state}
use Rattle.board_slots.specs.Claims.{IsReturnedAt}
use Rattle.board_jobs.specs.Indexes.{Has, IsIndexed}
use Rattle.board_jobs.specs.Taking.{with_new}
use Rattle.board_jobs.proofs.Fitting.{waiting_suits}
use Rattle.board_jobs.proofs.Indexed.{indexed_new, indexed_set, indexed_wider, stood_before, texts_more, wider_same}
use Rattle.board_jobs.proofs.jobs.Jobs.wait_for_new.Goals as goal

pub invariant_of-self-in_err-ready_for_new : goal.invariant_of-self-in_err-ready_for_new
invariant_of-self-in_err-ready_for_new g c =
    indexed_wider (g.W.Work.meaning g.N.BoardOf.work).text
    (map string_bytes c.self.inside.texts.keys) c.self.inside.index c.ready_for_new.new.index
    c.self.inside.slots.items c.reserve.new.self.items c.in_ok-reserve.ensures.items
    c.ready_for_new.ensures.wider c.self.invariant

pub invariant_of-self-in_err-add_text : goal.invariant_of-self-in_err-add_text
invariant_of-self-in_err-add_text g c =
    let text = (g.W.Work.meaning g.N.BoardOf.work).text in
    subst (λ keys. IsIndexed text (map string_bytes keys) c.ready_for_new.new.index c.reserve.new.self.items)
    (sym c.in_err-add_text.ensures.unchanged)
    (indexed_wider text (map string_bytes c.self.inside.texts.keys) c.self.inside.index
    c.ready_for_new.new.index c.self.inside.slots.items c.reserve.new.self.items
    c.in_ok-reserve.ensures.items c.ready_for_new.ensures.wider c.self.invariant)

pub wait_for_job-requires-clause-returned : goal.wait_for_job-requires-clause-returned
wait_for_job-requires-clause-returned g c κs within =
    let slots = c.self.inside.slots.items in
    let place = c.args.held.place in
    let less : place < length slots =
    subst (λ all. place < length all) (sym c.self.view_is) c.requires.within in
    let returned = subst (λ all. IsReturnedAt g.W.Work.job_of g.W.Work.answers_of c.args.held c.args.part all)
    (sym c.self.view_is) c.requires.returned in
    λ slot stands. returned slot (stood_before slots c.push_job.new.slots.items c.args.asked place slot
    less (c.push_job.ensures ∙ ap (with_new c.args.asked) c.in_ok-reserve.ensures.items) stands)

pub invariant_of-self-2 : goal.invariant_of-self-2
invariant_of-self-2 g c =
    let meaning = g.W.Work.meaning in
    let text = (meaning g.N.BoardOf.work).text in
    let slots = c.self.inside.slots.items in
    let index = c.ready_for_new.new.index in
    let long : c.len-other.result ≡ length slots = search rules in
    indexed_set text (map string_bytes c.add_text.new.texts.keys) index index
    c.push_job.new.slots.items c.wait_for_job.new.slots.items c.args.held.place
    (OnJob (g.W.Work.answers_of c.args.part) c.args.need c.len-other.result)
    c.wait_for_job.ensures (wider_same index)
    (waiting_suits index c.args.held.place (g.W.Work.answers_of c.args.part) c.args.need
    c.len-other.result c.in_ok-ready_for_new.ensures.waits c.in_ok-ready_for_new.ensures.low)
    (indexed_new text (map string_bytes c.self.inside.texts.keys)
    (map string_bytes c.add_text.new.texts.keys) c.self.inside.index index slots
    c.push_job.new.slots.items c.args.asked
    (texts_more text c.args.asked c.into_string-text.result c.self.inside.texts.keys
    c.add_text.new.texts.keys slots c.args.self.now (sym c.self.view_is)
    c.in_ok-add_text.ensures.added
    (c.into_string-text.ensures ∙ c.in_ok-of.ensures ∙ c.text.ensures
    ∙ ap (λ work. (meaning work).text c.args.asked) c.requires.named) c.self.invariant.named
    (subst (λ work. position_or_len (λ slot. bytes_eq ((meaning work).text c.args.asked) ((meaning work).text slot.job)) c.args.self.now ≡ length c.args.self.now) c.requires.named c.requires.new))
    (c.push_job.ensures ∙ ap (with_new c.args.asked) c.in_ok-reserve.ensures.items)
    c.ready_for_new.ensures.wider
    (subst (λ n. Has n index.queue) long c.in_ok-ready_for_new.ensures.queued)
    (subst (λ n. index.valued ≤ n) long c.in_ok-ready_for_new.ensures.late)
    c.self.invariant)
