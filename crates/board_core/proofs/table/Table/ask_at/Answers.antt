use Rattle.std.proofs.Common.{◌≡◌, ◌∷◌, ◌∙◌, Some, None, Ok, Err, ap, sym, slice_get, refl}
use Rattle.std.specs.Arc.{arc_value}
use Rattle.board_laws.specs.Works
use Rattle.board_machine.specs.Boards.{Queued, way_to}
use Rattle.board_machine.specs.Moves.{set_state, spread_refusal}
use Rattle.board_slots.specs.Views.{bare_rules, result_in}
use Rattle.board_work.specs.declared.events.Parked.TheVariants.{Ready, Refused}
use Rattle.board_core.specs.Calls.{outcome_in}
use Rattle.board_core.specs.Parks.{job_parked, parked_at}
use Rattle.board_core.proofs.JobAsks.{event_asked, refusal_asked, value_asked}
use Rattle.board_core.proofs.table.Table.ask_at.Goals as goal

pub returns-in_ok-go_on_with-in-Value : goal.returns-in_ok-go_on_with-in-Value
returns-in_ok-go_on_with-in-Value g c =
    let rules = bare_rules (g.W.Work.meaning c.args.work.now) in
    let old = c.args.self.now in
    let board = old.account.board in
    let held = c.args.held in
    let answers = g.W.Work.answers_of c.args.part in
    let value = arc_value c.in-Value.value in
    let came : outcome_in (slice_get board.slots c.args.other) ≡ Some (Ok value) =
    sym (ap result_in (sym c.in-Value.is) ∙ c.in_ok-value.ensures) in
    event_asked rules old c.go_on_with.new.self held.worker held.place held.job answers
    c.job_number-need.result c.args.other c.args.steps
    (set_state held.place (Queued (Works.Value value ∷ answers)) board.slots)
    (parked_at held.place c.args.other board) Ready c.job_number-need.ensures
    (value_asked rules held.place held.job answers c.args.other board value came)
    (ap (λ o. job_parked o (way_to board.slots held.place c.args.other)) (sym came))
    c.in_ok-go_on_with-in-Value.ensures.0 c.in_ok-go_on_with-in-Value.ensures.1

pub returns-in_ok-pass_refusal-in-Refusal : goal.returns-in_ok-pass_refusal-in-Refusal
returns-in_ok-pass_refusal-in-Refusal g c =
    let rules = bare_rules (g.W.Work.meaning c.args.work.now) in
    let old = c.args.self.now in
    let board = old.account.board in
    let held = c.args.held in
    let answers = g.W.Work.answers_of c.args.part in
    let refusal = arc_value c.in-Refusal.refusal in
    let came : outcome_in (slice_get board.slots c.args.other) ≡ Some (Err refusal) =
    sym (ap result_in (sym c.in-Refusal.is) ∙ c.in_ok-value.ensures) in
    event_asked rules old c.pass_refusal.new.self held.worker held.place held.job answers
    c.job_number-need.result c.args.other c.args.steps
    (spread_refusal held.place refusal board.slots)
    (parked_at held.place c.args.other board) Refused c.job_number-need.ensures
    (refusal_asked rules held.place held.job answers c.args.other board refusal came)
    (ap (λ o. job_parked o (way_to board.slots held.place c.args.other)) (sym came))
    c.in_ok-pass_refusal-in-Refusal.ensures.0 c.in_ok-pass_refusal-in-Refusal.ensures.1
