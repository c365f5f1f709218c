use Rattle.std.proofs.Common.{◌≡◌, ◌∙◌, ap, sym, subst, length, map, string_bytes, rules}
use Rattle.std.specs.List.{position}
use Rattle.std.specs.Str.{bytes_eq}
use Rattle.board_machine.specs.Moves.{place_of}
use Rattle.board_slots.specs.Views.{bare_rules}
use Rattle.board_jobs.proofs.Indexed.{place_found, place_missed}
use Rattle.board_jobs.proofs.jobs.Jobs.place_of.Goals as goal

pub returns-in-Some : goal.returns-in-Some
returns-in-Some g c =
    let meaning = g.W.Work.meaning in
    let text = (meaning c.args.work.now).text in
    let keys = c.self.inside.texts.keys in
    let slots = c.self.inside.slots.items in
    place_found text (text c.args.job.now) keys slots c.in-Some.place
    (subst (λ work. map string_bytes keys ≡ map (λ slot. (meaning work).text slot.job) slots)
    (sym c.requires) c.self.invariant.named)
    (c.in-Some.ensures.index
    ∙ ap (λ bytes. position (λ key. bytes_eq bytes (string_bytes key)) keys) c.text.ensures)
    ∙ ap (place_of (bare_rules (meaning c.args.work.now)) c.args.job.now) c.self.view_is

pub returns-in-None : goal.returns-in-None
returns-in-None g c =
    let meaning = g.W.Work.meaning in
    let text = (meaning c.args.work.now).text in
    let keys = c.self.inside.texts.keys in
    let slots = c.self.inside.slots.items in
    let long : c.len.result ≡ length slots = search rules in
    long ∙ place_missed text (text c.args.job.now) keys slots
    (subst (λ work. map string_bytes keys ≡ map (λ slot. (meaning work).text slot.job) slots)
    (sym c.requires) c.self.invariant.named)
    (c.in-None.ensures.index
    ∙ ap (λ bytes. position (λ key. bytes_eq bytes (string_bytes key)) keys) c.text.ensures)
    ∙ ap (place_of (bare_rules (meaning c.args.work.now)) c.args.job.now) c.self.view_is
