use Rattle.std.proofs.Common.{◌≡◌, ◌∙◌, ◌+◌, ◌≤◌, ap, sym, subst, true, length, slice_get, option_map}
use Rattle.std.proofs.Common.{Some, None, refl}
use Rattle.std.specs.Arc.{arc_value}
use Rattle.std.specs.List.{position_or_len}
use Rattle.board_machine.specs.Events
use Rattle.board_machine.specs.Moves.{is_file, park_file}
use Rattle.board_slots.specs.Claims.{is_held}
use Rattle.board_slots.specs.Needs.{found_in}
use Rattle.board_core.specs.Accounts.{ended}
use Rattle.board_core.specs.Parks.{file_parked}
use Rattle.board_core.proofs.FileParks.{answered_is, file_parked_kept, held_within, job_there, waiting_is}
use Rattle.board_core.proofs.board.Board.park_on_file.Goals as goal

pub go_on-requires-clause-returned : goal.go_on-requires-clause-returned
go_on-requires-clause-returned g c κs within =
    let meaning = g.W.Work.meaning g.N.BoardOf.work in
    let held = c.args.held in
    let answers = g.W.Work.answers_of c.args.part in
    let account = c.self.inside.table.account in
    let slots = account.board.slots in
    let needs = account.board.needs in
    let is_so : is_held meaning.text held.job held.worker held.answers (slice_get slots held.place) ≡ true =
    ap (λ w. is_held (g.W.Work.meaning w).text held.job held.worker held.answers (slice_get slots held.place)) (sym c.requires.named)
    ∙ sym c.holds.ensures ∙ c.if-not-holds.false in
    λ slot stands.
    let same = job_there meaning g.N.BoardOf.files g.N.BoardOf.goals (λ file. (g.met.W.Work g.world.𝓛 g.world.𝓜 g.world.𝓡 ((λ s x. x), (λ x. x), (λ x. x), λ x. x)).lawful g.N.BoardOf.work file) slots held.job held.worker held.answers held.place is_so c.requires.own c.self.invariant.linked slot stands in
    record {
      same = same;
      own = c.requires.asking.turned ∙ same;
      many = c.requires.asking.many;
      room = c.if-held-ge18446744073709551615.false;
    }

pub wait-requires-clause-returned : goal.wait-requires-clause-returned
wait-requires-clause-returned g c κs within =
    let meaning = g.W.Work.meaning g.N.BoardOf.work in
    let held = c.args.held in
    let answers = g.W.Work.answers_of c.args.part in
    let account = c.self.inside.table.account in
    let slots = account.board.slots in
    let needs = account.board.needs in
    let is_so : is_held meaning.text held.job held.worker held.answers (slice_get slots held.place) ≡ true =
    ap (λ w. is_held (g.W.Work.meaning w).text held.job held.worker held.answers (slice_get slots held.place)) (sym c.requires.named)
    ∙ sym c.holds.ensures ∙ c.if-not-holds.false in
    λ slot stands.
    let same = job_there meaning g.N.BoardOf.files g.N.BoardOf.goals (λ file. (g.met.W.Work g.world.𝓛 g.world.𝓜 g.world.𝓡 ((λ s x. x), (λ x. x), (λ x. x), λ x. x)).lawful g.N.BoardOf.work file) slots held.job held.worker held.answers held.place is_so c.requires.own c.self.invariant.linked slot stands in
    record {
      same = same;
      own = c.requires.asking.turned ∙ same;
      many = c.requires.asking.many;
      room = c.if-held-ge18446744073709551615.false;
    }

pub wait-requires-clause-within : goal.wait-requires-clause-within
wait-requires-clause-within g c κs within =
    let meaning = g.W.Work.meaning g.N.BoardOf.work in
    let held = c.args.held in
    let answers = g.W.Work.answers_of c.args.part in
    let account = c.self.inside.table.account in
    let slots = account.board.slots in
    let needs = account.board.needs in
    let is_so : is_held meaning.text held.job held.worker held.answers (slice_get slots held.place) ≡ true =
    ap (λ w. is_held (g.W.Work.meaning w).text held.job held.worker held.answers (slice_get slots held.place)) (sym c.requires.named)
    ∙ sym c.holds.ensures ∙ c.if-not-holds.false in
    held_within meaning.text held.job held.worker held.answers held.place slots is_so

pub invariant_of-self-in-Some-1 : goal.invariant_of-self-in-Some-1
invariant_of-self-in-Some-1 g c =
    let meaning = g.W.Work.meaning g.N.BoardOf.work in
    let held = c.args.held in
    let answers = g.W.Work.answers_of c.args.part in
    let account = c.self.inside.table.account in
    let slots = account.board.slots in
    let needs = account.board.needs in
    let is_so : is_held meaning.text held.job held.worker held.answers (slice_get slots held.place) ≡ true =
    ap (λ w. is_held (g.W.Work.meaning w).text held.job held.worker held.answers (slice_get slots held.place)) (sym c.requires.named)
    ∙ sym c.holds.ensures ∙ c.if-not-holds.false in
    let need : c.file_number-need.result ≡ position_or_len (is_file c.args.path) needs = c.file_number-need.ensures in
    let found : Some (arc_value c.in-Some.found) ≡ found_in (slice_get needs c.file_number-need.result) =
    ap (option_map arc_value) (sym c.in-Some.is) ∙ c.in_ok-found.ensures in
    let parked = answered_is held.place answers c.file_number-need.result c.args.path (arc_value c.in-Some.found) account.board need found in
    let event : c.go_on.new.self.account ≡ ended (Events.Park held.worker held.place (position_or_len (is_file c.args.path) needs)) c.args.spent (park_file held.place answers c.args.path account.board) account =
    c.in_ok-go_on-in-Some.ensures.0
    ∙ ap (λ b. ended (Events.Park held.worker held.place c.file_number-need.result) c.args.spent b account) parked
    ∙ ap (λ n. ended (Events.Park held.worker held.place n) c.args.spent (park_file held.place answers c.args.path account.board) account) need in
    file_parked_kept meaning g.N.BoardOf.files g.N.BoardOf.goals
    (λ file. (g.met.W.Work g.world.𝓛 g.world.𝓜 g.world.𝓡 ((λ s x. x), (λ x. x), (λ x. x), λ x. x)).lawful g.N.BoardOf.work file)
    c.self.inside.table c.go_on.new.self held.job held.worker held.answers held.place c.args.spent
    answers c.args.path is_so c.requires.own c.requires.asking.needs c.requires.asking.many
    c.requires.asking.ticked c.requires.given event
    (subst (λ b. length b.slots + 1 ≤ c.go_on.new.self.room) parked c.in_ok-go_on-in-Some.ensures.1)
    c.self.invariant

pub invariant_of-self-in-None : goal.invariant_of-self-in-None
invariant_of-self-in-None g c =
    let meaning = g.W.Work.meaning g.N.BoardOf.work in
    let held = c.args.held in
    let answers = g.W.Work.answers_of c.args.part in
    let account = c.self.inside.table.account in
    let slots = account.board.slots in
    let needs = account.board.needs in
    let is_so : is_held meaning.text held.job held.worker held.answers (slice_get slots held.place) ≡ true =
    ap (λ w. is_held (g.W.Work.meaning w).text held.job held.worker held.answers (slice_get slots held.place)) (sym c.requires.named)
    ∙ sym c.holds.ensures ∙ c.if-not-holds.false in
    let need : c.file_number-need.result ≡ position_or_len (is_file c.args.path) needs = c.file_number-need.ensures in
    let none : None ≡ found_in (slice_get needs c.file_number-need.result) =
    ap (option_map arc_value) (sym c.in-None.is) ∙ c.in_ok-found.ensures in
    let parked = waiting_is held.place answers c.file_number-need.result c.args.path account.board need none in
    let event : c.wait.new.self.account ≡ ended (Events.Park held.worker held.place (position_or_len (is_file c.args.path) needs)) c.args.spent (park_file held.place answers c.args.path account.board) account =
    c.in_ok-wait-in-None.ensures.0
    ∙ ap (λ b. ended (Events.Park held.worker held.place c.file_number-need.result) c.args.spent b account) parked
    ∙ ap (λ n. ended (Events.Park held.worker held.place n) c.args.spent (park_file held.place answers c.args.path account.board) account) need in
    file_parked_kept meaning g.N.BoardOf.files g.N.BoardOf.goals
    (λ file. (g.met.W.Work g.world.𝓛 g.world.𝓜 g.world.𝓡 ((λ s x. x), (λ x. x), (λ x. x), λ x. x)).lawful g.N.BoardOf.work file)
    c.self.inside.table c.wait.new.self held.job held.worker held.answers held.place c.args.spent
    answers c.args.path is_so c.requires.own c.requires.asking.needs c.requires.asking.many
    c.requires.asking.ticked c.requires.given event
    (subst (λ b. length b.slots + 1 ≤ c.wait.new.self.room) parked c.in_ok-wait-in-None.ensures.1)
    c.self.invariant

pub returns-in_ok-go_on-in-Some : goal.returns-in_ok-go_on-in-Some
returns-in_ok-go_on-in-Some g c =
    let meaning = g.W.Work.meaning g.N.BoardOf.work in
    let held = c.args.held in
    let answers = g.W.Work.answers_of c.args.part in
    let account = c.self.inside.table.account in
    let slots = account.board.slots in
    let needs = account.board.needs in
    let is_so : is_held meaning.text held.job held.worker held.answers (slice_get slots held.place) ≡ true =
    ap (λ w. is_held (g.W.Work.meaning w).text held.job held.worker held.answers (slice_get slots held.place)) (sym c.requires.named)
    ∙ sym c.holds.ensures ∙ c.if-not-holds.false in
    let need : c.file_number-need.result ≡ position_or_len (is_file c.args.path) needs = c.file_number-need.ensures in
    let found : Some (arc_value c.in-Some.found) ≡ found_in (slice_get needs c.file_number-need.result) =
    ap (option_map arc_value) (sym c.in-Some.is) ∙ c.in_ok-found.ensures in
    let parked = answered_is held.place answers c.file_number-need.result c.args.path (arc_value c.in-Some.found) account.board need found in
    let event : c.go_on.new.self.account ≡ ended (Events.Park held.worker held.place (position_or_len (is_file c.args.path) needs)) c.args.spent (park_file held.place answers c.args.path account.board) account =
    c.in_ok-go_on-in-Some.ensures.0
    ∙ ap (λ b. ended (Events.Park held.worker held.place c.file_number-need.result) c.args.spent b account) parked
    ∙ ap (λ n. ended (Events.Park held.worker held.place n) c.args.spent (park_file held.place answers c.args.path account.board) account) need in (
      ap (λ a. is_held meaning.text held.job held.worker held.answers (slice_get a.board.slots held.place)) (sym c.self.view_is) ∙ is_so,
      sym (ap file_parked (found ∙ ap (λ n. found_in (slice_get needs n)) need ∙ ap (λ a. found_in (slice_get a.board.needs (position_or_len (is_file c.args.path) a.board.needs))) c.self.view_is)),
      event ∙ ap (λ a. ended (Events.Park held.worker held.place (position_or_len (is_file c.args.path) a.board.needs)) c.args.spent (park_file held.place answers c.args.path a.board) a) c.self.view_is,
    )
