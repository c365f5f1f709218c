use Rattle.std.proofs.Common.{◌≡◌, ◌≤◌, ◌+◌, ◌∙◌, ap, sym, subst, true, length, slice_get}
use Rattle.bz_text.specs.contracts.memory.OutOfMemory.{the_row}
use Rattle.board_machine.specs.Boards.{way_to}
use Rattle.board_machine.specs.Moves.{place_of}
use Rattle.board_core.specs.Calls.{outcome_in}
use Rattle.board_slots.specs.Claims.{is_held}
use Rattle.board_slots.specs.Views.{bare_rules}
use Rattle.board_core.specs.Parks.{after_job, is_held_on, parked_on_job}
use Rattle.board_core.proofs.FileParks.{held_within, job_there}
use Rattle.board_core.proofs.JobAsks.{job_parked_is, park_gives}
use Rattle.board_core.proofs.JobParks.{job_parked_kept}
use Rattle.board_core.proofs.board.Board.park_on_job.Goals as goal

pub ask-requires-clause-returned : goal.ask-requires-clause-returned
ask-requires-clause-returned g c κs within =
    let meaning = g.W.Work.meaning g.N.BoardOf.work in
    let held = c.args.held in
    let slots = c.self.inside.table.account.board.slots in
    let is_so : is_held meaning.text held.job held.worker held.answers (slice_get slots held.place) ≡ true =
    ap (λ w. is_held (g.W.Work.meaning w).text held.job held.worker held.answers (slice_get slots held.place)) (sym c.requires.named)
    ∙ sym c.holds.ensures ∙ c.if-not-holds.false in
    λ slot stands.
    let same = job_there meaning g.N.BoardOf.files g.N.BoardOf.goals (λ file. (g.met.W.Work g.world.𝓛 g.world.𝓜 g.world.𝓡 ((λ s x. x), (λ x. x), (λ x. x), λ x. x)).lawful g.N.BoardOf.work file) slots held.job held.worker held.answers held.place is_so c.requires.own c.self.invariant.linked slot stands in
    record {
      same = same;
      own = c.requires.asking.turned ∙ same;
      many = c.requires.asking.many;
      room = c.if-held-ge18446744073709551615.false;
    }

pub ask-requires-clause-within : goal.ask-requires-clause-within
ask-requires-clause-within g c κs within =
    let meaning = g.W.Work.meaning g.N.BoardOf.work in
    let held = c.args.held in
    let slots = c.self.inside.table.account.board.slots in
    let is_so : is_held meaning.text held.job held.worker held.answers (slice_get slots held.place) ≡ true =
    ap (λ w. is_held (g.W.Work.meaning w).text held.job held.worker held.answers (slice_get slots held.place)) (sym c.requires.named)
    ∙ sym c.holds.ensures ∙ c.if-not-holds.false in
    held_within meaning.text held.job held.worker held.answers held.place slots is_so

pub invariant_of-self-2 : goal.invariant_of-self-2
invariant_of-self-2 g c =
    let meaning = g.W.Work.meaning g.N.BoardOf.work in
    let held = c.args.held in
    let answers = g.W.Work.answers_of c.args.part in
    let account = c.self.inside.table.account in
    let slots = account.board.slots in
    let is_so : is_held meaning.text held.job held.worker held.answers (slice_get slots held.place) ≡ true =
    ap (λ w. is_held (g.W.Work.meaning w).text held.job held.worker held.answers (slice_get slots held.place)) (sym c.requires.named)
    ∙ sym c.holds.ensures ∙ c.if-not-holds.false in
    job_parked_kept meaning g.N.BoardOf.files g.N.BoardOf.goals
    (λ file. (g.met.W.Work g.world.𝓛 g.world.𝓜 g.world.𝓡 ((λ s x. x), (λ x. x), (λ x. x), λ x. x)).lawful g.N.BoardOf.work file)
    c.self.inside.table c.ask.new.self held.job c.args.asked held.worker held.answers held.place
    c.args.spent answers is_so c.requires.own c.requires.asking.needs c.requires.asking.many
    c.requires.asking.ticked c.requires.given
    (subst (λ w. c.ask.new.self.account ≡ after_job (bare_rules (g.W.Work.meaning w)) held.worker
    held.place held.job answers c.args.asked c.args.spent account) c.requires.named
    c.in_ok-parked.ensures.1)
    (subst (λ w. length (after_job (bare_rules (g.W.Work.meaning w)) held.worker held.place held.job
    answers c.args.asked c.args.spent account).board.slots + 1 ≤ c.ask.new.self.room)
    c.requires.named c.in_ok-parked.ensures.2)
    c.self.invariant

pub returns : goal.returns
returns g c =
    let meaning = g.W.Work.meaning g.N.BoardOf.work in
    let held = c.args.held in
    let answers = g.W.Work.answers_of c.args.part in
    let slots = c.self.inside.table.account.board.slots in
    let asked = c.args.asked in
    let new = c.ask.new.self.account in
    let parked = c.in_ok-parked.parked in
    let is_so : is_held meaning.text held.job held.worker held.answers (slice_get slots held.place) ≡ true =
    ap (λ w. is_held (g.W.Work.meaning w).text held.job held.worker held.answers (slice_get slots held.place)) (sym c.requires.named)
    ∙ sym c.holds.ensures ∙ c.if-not-holds.false in
    let board = c.args.self.now.board in
    park_gives the_row.Denot (is_held_on meaning held c.args.self.now)
    (parked_on_job (bare_rules meaning) held.place asked board) parked c.args.self.now new
    (after_job (bare_rules meaning) held.worker held.place held.job answers asked c.args.spent
    c.args.self.now)
    (ap (is_held_on meaning held) (sym c.self.view_is) ∙ is_so)
    (job_parked_is (outcome_in (slice_get board.slots (place_of (bare_rules meaning) asked board.slots)))
    (way_to board.slots held.place (place_of (bare_rules meaning) asked board.slots)))
    (subst (λ a. parked ≡ parked_on_job (bare_rules meaning) held.place asked a.board)
    c.self.view_is
    (subst (λ w. parked ≡ parked_on_job (bare_rules (g.W.Work.meaning w)) held.place asked
    c.self.inside.table.account.board) c.requires.named c.in_ok-parked.ensures.0))
    (subst (λ a. new ≡ after_job (bare_rules meaning) held.worker held.place held.job answers asked
    c.args.spent a) c.self.view_is
    (subst (λ w. new ≡ after_job (bare_rules (g.W.Work.meaning w)) held.worker held.place held.job
    answers asked c.args.spent c.self.inside.table.account) c.requires.named
    c.in_ok-parked.ensures.1))
