use Rattle.std.proofs.Common.{◌≡◌, ◌∙◌, Some, None, ap, sym}
use Rattle.std.specs.Prelude.{option_map}
use Rattle.std.specs.Arc.{arc_value}
use Rattle.board_machine.specs.Boards.{OnJob}
use Rattle.board_machine.specs.Moves.{set_state, spread_refusal}
use Rattle.board_slots.specs.Views.{bare_rules}
use Rattle.board_work.specs.declared.events.Parked.TheVariants.{Cycle, Waits}
use Rattle.board_core.specs.Accounts.{cycle_closed}
use Rattle.board_core.specs.Parks.{parked_at}
use Rattle.board_core.proofs.JobAsks.{cycle_asked, cycle_parks, event_asked, waiting_asked, waiting_parks}
use Rattle.board_core.proofs.table.Table.ask_open.Goals as goal

pub returns-in_ok-pass_refusal-in-Some : goal.returns-in_ok-pass_refusal-in-Some
returns-in_ok-pass_refusal-in-Some g c =
    let rules = bare_rules (g.W.Work.meaning c.args.work.now) in
    let old = c.args.self.now in
    let board = old.account.board in
    let held = c.args.held in
    let answers = g.W.Work.answers_of c.args.part in
    let refusal = arc_value c.in-Some.refusal in
    let closed : cycle_closed rules held.job held.place c.args.other board.slots ≡ Some refusal =
    sym c.in_ok-refusal.ensures ∙ ap (option_map arc_value) c.in-Some.is in
    event_asked rules old c.pass_refusal.new.self held.worker held.place held.job answers
    c.args.need c.args.other c.args.steps (spread_refusal held.place refusal board.slots)
    (parked_at held.place c.args.other board) Cycle c.requires.number
    (cycle_asked rules held.place held.job answers c.args.other board refusal c.requires.undone
    closed)
    (cycle_parks rules held.job held.place c.args.other board refusal c.requires.undone closed)
    c.in_ok-pass_refusal-in-Some.ensures.0 c.in_ok-pass_refusal-in-Some.ensures.1

pub returns-in_ok-wait_for-in-None : goal.returns-in_ok-wait_for-in-None
returns-in_ok-wait_for-in-None g c =
    let rules = bare_rules (g.W.Work.meaning c.args.work.now) in
    let old = c.args.self.now in
    let board = old.account.board in
    let held = c.args.held in
    let answers = g.W.Work.answers_of c.args.part in
    let unclosed : cycle_closed rules held.job held.place c.args.other board.slots ≡ None =
    sym c.in_ok-refusal.ensures ∙ ap (option_map arc_value) c.in-None.is in
    event_asked rules old c.wait_for.new.self held.worker held.place held.job answers
    c.args.need c.args.other c.args.steps
    (set_state held.place (OnJob answers c.args.need c.args.other) board.slots)
    (parked_at held.place c.args.other board) Waits c.requires.number
    (waiting_asked rules held.place held.job answers c.args.need c.args.other board
    c.requires.number c.requires.undone unclosed)
    (waiting_parks rules held.job held.place c.args.other board c.requires.undone unclosed)
    c.in_ok-wait_for-in-None.ensures.0 c.in_ok-wait_for-in-None.ensures.1
