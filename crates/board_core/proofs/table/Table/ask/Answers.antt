use Rattle.std.proofs.Common.{◌≡◌, ◌∙◌, ap, length, sym}
use Rattle.std.specs.List.{position_or_len}
use Rattle.board_machine.specs.Moves.{is_job}
use Rattle.board_slots.specs.Views.{bare_rules}
use Rattle.board_core.proofs.JobAsks.{known_asked, last_place, new_asked}
use Rattle.board_core.proofs.table.Table.ask.Goals as goal

pub returns-then-has_place : goal.returns-then-has_place
returns-then-has_place g c =
    known_asked (bare_rules (g.W.Work.meaning c.args.work.now)) c.args.self.now c.ask_at.new.self
    c.args.held.worker c.args.held.place c.args.held.job c.args.asked
    (g.W.Work.answers_of c.args.part) c.place_of-other.result c.args.steps c.ask_at.result
    c.place_of-other.ensures (sym c.has_place.ensures ∙ c.if-has_place.true) c.ask_at.ensures

pub wait_for_new-requires-clause-number : goal.wait_for_new-requires-clause-number
wait_for_new-requires-clause-number g c κs within =
    let account = c.args.self.now.account in
    let last : c.place_of-other.result ≡ length account.board.slots =
    last_place (bare_rules (g.W.Work.meaning c.args.work.now)) c.args.asked account.board.slots
    c.place_of-other.result c.place_of-other.ensures
    (sym c.has_place.ensures ∙ c.if-has_place.false) in
    c.job_number-need.ensures
    ∙ ap (λ o. position_or_len (is_job o) account.board.needs) last

pub returns : goal.returns
returns g c =
    let rules = bare_rules (g.W.Work.meaning c.args.work.now) in
    let account = c.args.self.now.account in
    new_asked rules c.args.self.now c.wait_for_new.new.self c.args.held.worker
    c.args.held.place c.args.held.job c.args.asked (g.W.Work.answers_of c.args.part)
    c.job_number-need.result c.place_of-other.result c.args.steps c.place_of-other.ensures
    (last_place rules c.args.asked account.board.slots c.place_of-other.result
    c.place_of-other.ensures (sym c.has_place.ensures ∙ c.if-has_place.false))
    c.requires.within c.job_number-need.ensures c.in_ok-wait_for_new.ensures.0
    c.in_ok-wait_for_new.ensures.1

pub wait_for_new-requires-clause-new : goal.wait_for_new-requires-clause-new
wait_for_new-requires-clause-new g c κs within =
    let account = c.args.self.now.account in
    let last : c.place_of-other.result ≡ length account.board.slots =
    last_place (bare_rules (g.W.Work.meaning c.args.work.now)) c.args.asked account.board.slots
    c.place_of-other.result c.place_of-other.ensures
    (sym c.has_place.ensures ∙ c.if-has_place.false) in
    sym c.place_of-other.ensures ∙ last
