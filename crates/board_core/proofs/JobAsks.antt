-- What a claimed job that asks another one comes to, case by case, is what the machine makes of it.
use Rattle.std.proofs.Common.{◌≡◌, ◌≢◌, ℕ, zero, suc, ◌+◌, ◌<◌, ◌≤◌, ◌==◌, Bool, true, false, List, [], ◌∷◌}
use Rattle.std.proofs.Common.{length, refl, ap, sym, ◌∙◌, subst, arith, Option, Some, None, slice_get}
use Rattle.std.proofs.Common.{Result, Ok, Err}
use Rattle.std.specs.Prelude.{if◌then◌else◌, nat_lt, option_map}
use Rattle.std.proofs.Common.{◌⊎◌, inl, inr}
use Rattle.std.specs.List.{position_or_len}
use Rattle.std.proofs.lemmas.Bool.Decides.{nat_tests}
use Rattle.std.proofs.lemmas.Option.{slice_get_within}
use Rattle.bz_base.specs.declared.refusals.Refusal.{Refusal}
use Rattle.bz_tree.specs.declared.tree.Found.{Found}
use Rattle.board_laws.specs.Recursive.{cycle_of, same_job}
use Rattle.board_laws.specs.Works.{Answer, Rules, Value}
use Rattle.board_machine.specs.Boards.{Board, Job, Needed, OnJob, Queued, Slot, State, next_at}
use Rattle.board_machine.specs.Boards.{jobs_at, next_in, next_of, walk, way_to}
use Rattle.board_machine.specs.Events
use Rattle.board_machine.specs.Moves.{is_job, job_put, park_job, place_of, set_state, spread_refusal}
use Rattle.board_machine.specs.Moves.{state_in, with_job, with_need}
use Rattle.board_machine.proofs.Slots.{position_found, pushed-last}
use Rattle.board_work.specs.declared.events.Parked.{Parked}
use Rattle.board_work.specs.declared.events.Parked.TheVariants.{Waits, Ready, Refused, Cycle, Stray}
use Rattle.board_core.specs.Accounts.{Account, Table, cycle_closed, ended, wanting_job}
use Rattle.board_jobs.specs.Taking.{with_new}
use Rattle.board_core.specs.Calls.{outcome_in}
use Rattle.board_core.specs.Parks.{IsParkedAs, ParkGives, after_asking, after_job, asking_slots}
use Rattle.board_core.specs.Parks.{job_parked, parked_at, parked_on_job}
use Rattle.board_core.proofs.JobParks.{known_job, put_cycle, put_refusal, put_value, put_waiting}
use Rattle.board_core.proofs.JobParks.{state_open, state_result}

some_is : {X : Type 0} (x : X) → Some x ≢ None
some_is x e = absurd (cc)

-- from a job that doesn't wait no chain leads to another one
unled : (next : ℕ → Option ℕ) (goal steps place : ℕ) → (place == goal) ≡ false
    → next place ≡ None → walk next goal steps place ≡ None
unfolding walk
unled next goal zero place off none = rw off refl
unled next goal (suc steps) place off none = rw (off, none) refl

module _ {J V : Type 0} where
  pub past_end : (slots : List (Slot J Found V Refusal)) → slice_get slots (length slots) ≡ None
  past_end [] = refl
  past_end (slot ∷ slots) = past_end slots

  unled_end : (slots : List (Slot J Found V Refusal)) (goal : ℕ) → goal < length slots
      → way_to slots goal (length slots) ≡ None
  unled_end slots goal less =
      unled (next_at slots) goal (length slots) (length slots) (grind (arith, nat_tests, less))
      (ap next_in (past_end slots))

  unled_new : (slots : List (Slot J Found V Refusal)) (asked : J) (goal : ℕ) → goal < length slots
      → way_to (with_new asked slots) goal (length slots) ≡ None
  unled_new slots asked goal less =
      unled (next_at (with_new asked slots)) goal (length (with_new asked slots)) (length slots)
      (grind (arith, nat_tests, less))
      (ap next_in (pushed-last slots (record { job = asked; state = Queued [] })))

module _ {J V : Type 0} (rules : Rules J (List ℕ) Found V Refusal) where
  pub value_asked : (place : ℕ) (job : J) (answers : List (Answer Found V)) (other : ℕ)
      (board : Board J Found V Refusal) (value : V)
      → outcome_in (slice_get board.slots other) ≡ Some (Ok value)
      → set_state place (Queued (Value value ∷ answers)) board.slots
      ≡ asking_slots rules place job answers other board
  unfolding asking_slots
  value_asked place job answers other board value e =
      put_value rules place job answers (position_or_len (is_job other) board.needs) other
      (way_to board.slots place other) (state_in (slice_get board.slots other)) board.slots value
      (state_result rules (slice_get board.slots other) (Some (Ok value)) e (some_is (Ok value)))

  pub refusal_asked : (place : ℕ) (job : J) (answers : List (Answer Found V)) (other : ℕ)
      (board : Board J Found V Refusal) (refusal : Refusal)
      → outcome_in (slice_get board.slots other) ≡ Some (Err refusal)
      → spread_refusal place refusal board.slots
      ≡ asking_slots rules place job answers other board
  unfolding asking_slots
  refusal_asked place job answers other board refusal e =
      put_refusal rules place job answers (position_or_len (is_job other) board.needs) other
      (way_to board.slots place other) (state_in (slice_get board.slots other)) board.slots refusal
      (state_result rules (slice_get board.slots other) (Some (Err refusal)) e (some_is (Err refusal)))

  pub cycle_asked : (place : ℕ) (job : J) (answers : List (Answer Found V)) (other : ℕ)
      (board : Board J Found V Refusal) (refusal : Refusal)
      → outcome_in (slice_get board.slots other) ≡ None
      → cycle_closed rules job place other board.slots ≡ Some refusal
      → spread_refusal place refusal board.slots
      ≡ asking_slots rules place job answers other board
  unfolding asking_slots
  cycle_asked place job answers other board refusal undone closed =
      put_cycle rules place job answers (position_or_len (is_job other) board.needs) other
      (way_to board.slots place other) (state_in (slice_get board.slots other)) board.slots refusal
      (state_open rules (slice_get board.slots other) undone) closed

  pub waiting_asked : (place : ℕ) (job : J) (answers : List (Answer Found V)) (need other : ℕ)
      (board : Board J Found V Refusal)
      → need ≡ position_or_len (is_job other) board.needs
      → outcome_in (slice_get board.slots other) ≡ None
      → cycle_closed rules job place other board.slots ≡ None
      → set_state place (OnJob answers need other) board.slots
      ≡ asking_slots rules place job answers other board
  unfolding asking_slots
  waiting_asked place job answers need other board number undone unclosed =
      ap (λ n. set_state place (OnJob answers n other) board.slots) number
      ∙ put_waiting rules place job answers (position_or_len (is_job other) board.needs) other
      (way_to board.slots place other) (state_in (slice_get board.slots other)) board.slots
      (state_open rules (slice_get board.slots other) undone) unclosed

  -- what asking comes to, where the other job isn't done
  pub cycle_parks : (job : J) (place other : ℕ) (board : Board J Found V Refusal)
      (refusal : Refusal) → outcome_in (slice_get board.slots other) ≡ None
      → cycle_closed rules job place other board.slots ≡ Some refusal
      → Cycle ≡ parked_at place other board
  cycle_parks job place other board refusal undone closed =
      go (way_to board.slots place other) closed
      ∙ ap (λ o. job_parked o (way_to board.slots place other)) (sym undone)
    where
      go : (way : Option (List ℕ))
          → option_map (λ places. cycle_of rules (job ∷ jobs_at board.slots places)) way ≡ Some refusal
          → Cycle ≡ job_parked {V = V} None way
      go None e = absurd (cc)
      go (Some places) e = refl

  pub waiting_parks : (job : J) (place other : ℕ) (board : Board J Found V Refusal)
      → outcome_in (slice_get board.slots other) ≡ None
      → cycle_closed rules job place other board.slots ≡ None
      → Waits ≡ parked_at place other board
  waiting_parks job place other board undone unclosed =
      go (way_to board.slots place other) unclosed
      ∙ ap (λ o. job_parked o (way_to board.slots place other)) (sym undone)
    where
      go : (way : Option (List ℕ))
          → option_map (λ places. cycle_of rules (job ∷ jobs_at board.slots places)) way ≡ None
          → Waits ≡ job_parked {V = V} None way
      go (Some places) e = absurd (cc)
      go None e = refl

  -- one of the cases, as an event
  pub event_asked : (old new : Table J V) (worker place : ℕ) (job : J)
      (answers : List (Answer Found V)) (need other steps : ℕ)
      (slots : List (Slot J Found V Refusal)) (what parked : Parked)
      → need ≡ position_or_len (is_job other) old.account.board.needs
      → slots ≡ asking_slots rules place job answers other old.account.board
      → parked ≡ what
      → new.account ≡ ended (Events.Park worker place need) steps
      (wanting_job other slots old.account.board) old.account
      → length slots + 1 ≤ new.room
      → (parked ≡ what)
      × (new.account ≡ after_asking rules worker place job answers other steps old.account)
      × (length (asking_slots rules place job answers other old.account.board) + 1 ≤ new.room)
  event_asked old new worker place job answers need other steps slots what parked number same is
      event room =
      let account = old.account in
      let board = account.board in (
        is,
        event
            ∙ ap (λ n. ended (Events.Park worker place n) steps (wanting_job other slots board)
            account) number
            ∙ ap (λ xs. ended (Events.Park worker place (position_or_len (is_job other)
            board.needs)) steps (wanting_job other xs board) account) same,
        subst (λ xs. length xs + 1 ≤ new.room) same room,
      )

  put_board : ℕ → J → List (Answer Found V) → Board J Found V Refusal
      → List (Slot J Found V Refusal) → ℕ → Option (List ℕ) → State Found V Refusal
      → Board J Found V Refusal
  put_board place job answers board slots other way state =
      record {
        goals = board.goals;
        slots = job_put rules place job answers (position_or_len (is_job other) board.needs) other
            way state slots;
        needs = with_need (is_job other) (Job other) board.needs;
        halted = board.halted;
      }

  asked_board : ℕ → J → List (Answer Found V) → Board J Found V Refusal
      → List (Slot J Found V Refusal) → ℕ → Board J Found V Refusal
  asked_board place job answers board slots other =
      put_board place job answers board slots other (way_to slots place other)
      (state_in (slice_get slots other))

  -- a job that stands is asked at its place
  known_park : (place : ℕ) (job asked : J) (answers : List (Answer Found V))
      (board : Board J Found V Refusal)
      → nat_lt (place_of rules asked board.slots) (length board.slots) ≡ true
      → wanting_job (place_of rules asked board.slots)
      (asking_slots rules place job answers (place_of rules asked board.slots) board) board
      ≡ park_job rules place job answers asked board
  unfolding asking_slots asked_board put_board
  known_park place job asked answers board known =
      ap (λ slots. asked_board place job answers board slots (place_of rules asked board.slots))
      (sym (known_job rules asked board.slots known))

  pub known_asked : {E : Type 0} (old new : Table J V) (worker place : ℕ) (job asked : J)
      (answers : List (Answer Found V)) (other steps : ℕ) (result : Result Parked E)
      → other ≡ place_of rules asked old.account.board.slots
      → nat_lt other (length old.account.board.slots) ≡ true
      → IsParkedAs old new (parked_at place other old.account.board)
      (after_asking rules worker place job answers other steps old.account) result
      → IsParkedAs old new (parked_on_job rules place asked old.account.board)
      (after_job rules worker place job answers asked steps old.account) result
  known_asked old new worker place job asked answers other steps result is known so =
      let account = old.account in
      let board = account.board in
      let at = place_of rules asked board.slots in
      subst (λ b. IsParkedAs old new (parked_at place at board)
      (ended (Events.Park worker place (position_or_len (is_job at) board.needs)) steps b account)
      result)
      (known_park place job asked answers board
      (ap (λ o. nat_lt o (length board.slots)) (sym is) ∙ known))
      (subst (λ o. IsParkedAs old new (parked_at place o board)
      (after_asking rules worker place job answers o steps account) result) is so)

  pub last_place : (asked : J) (slots : List (Slot J Found V Refusal)) (other : ℕ)
      → other ≡ place_of rules asked slots → nat_lt other (length slots) ≡ false
      → other ≡ length slots
  last_place asked slots other is off = go (position_found (λ slot. same_job rules asked slot.job) slots)
    where
      go : ((slot : Slot J Found V Refusal)
          × (slice_get slots (place_of rules asked slots) ≡ Some slot)
          × (same_job rules asked slot.job ≡ true))
          ⊎ ((place_of rules asked slots ≡ length slots)
          × ((at : ℕ) (slot : Slot J Found V Refusal) → slice_get slots at ≡ Some slot
          → same_job rules asked slot.job ≡ false))
          → other ≡ length slots
      go (inl r) =
          let less = slice_get_within slots (place_of rules asked slots) r.0 r.1 in
          absurd (grind (arith, nat_tests, less, is, off))
      go (inr r) = is ∙ r.0

  -- a job that is new stands last, and is waited for
  new_park : (place : ℕ) (job asked : J) (answers : List (Answer Found V))
      (board : Board J Found V Refusal)
      → place_of rules asked board.slots ≡ length board.slots → place < length board.slots
      → wanting_job (length board.slots)
      (set_state place (OnJob answers
      (position_or_len (is_job (length board.slots)) board.needs) (length board.slots))
      (with_new asked board.slots)) board
      ≡ park_job rules place job answers asked board
  unfolding asked_board put_board
  new_park place job asked answers board new within =
      let slots = board.slots in
      let more = with_new asked slots in
      let len = length slots in
      let past : nat_lt len len ≡ false = grind (arith, nat_tests) in
      let added : with_job rules asked slots ≡ more =
      ap (λ b. if b then slots else more) (ap (λ n. nat_lt n len) new ∙ past) in
      let parked : park_job rules place job answers asked board
      ≡ asked_board place job answers board more len =
      ap (λ xs. asked_board place job answers board xs (place_of rules asked slots)) added
      ∙ ap (asked_board place job answers board more) new in
      sym (parked
      ∙ ap (λ way. put_board place job answers board more len way (state_in (slice_get more len)))
      (unled_new slots asked place within)
      ∙ ap (λ slot. put_board place job answers board more len None (state_in slot))
      (pushed-last slots (record { job = asked; state = Queued [] })))

  pub new_asked : (old new : Table J V) (worker place : ℕ) (job asked : J)
      (answers : List (Answer Found V)) (need other steps : ℕ)
      → other ≡ place_of rules asked old.account.board.slots
      → other ≡ length old.account.board.slots
      → place < length old.account.board.slots
      → need ≡ position_or_len (is_job other) old.account.board.needs
      → new.account ≡ ended (Events.Park worker place need) steps
      (wanting_job (length old.account.board.slots)
      (set_state place (OnJob answers need (length old.account.board.slots))
      (with_new asked old.account.board.slots)) old.account.board) old.account
      → length (set_state place (OnJob answers need (length old.account.board.slots))
      (with_new asked old.account.board.slots)) + 1 ≤ new.room
      → (Waits ≡ parked_on_job rules place asked old.account.board)
      × (new.account ≡ after_job rules worker place job answers asked steps old.account)
      × (length (park_job rules place job answers asked old.account.board).slots + 1 ≤ new.room)
  new_asked old new worker place job asked answers need other steps at is within number event
      room =
      let account = old.account in
      let board = account.board in
      let slots = board.slots in
      let len = length slots in
      let last : place_of rules asked slots ≡ len = sym at ∙ is in
      let numbered : need ≡ position_or_len (is_job len) board.needs =
      number ∙ ap (λ o. position_or_len (is_job o) board.needs) is in
      let parked = new_park place job asked answers board last within in
      let unled_is : None ≡ way_to slots place (place_of rules asked slots) =
      sym (ap (way_to slots place) last ∙ unled_end slots place within) in
      let outcome_is : None ≡ outcome_in (slice_get slots (place_of rules asked slots)) =
      sym (ap (λ o. outcome_in (slice_get slots o)) last ∙ ap outcome_in (past_end slots)) in (
        ap (job_parked {V = V} None) unled_is
            ∙ ap (λ o. job_parked o (way_to slots place (place_of rules asked slots))) outcome_is,
        event
            ∙ ap (λ n. ended (Events.Park worker place n) steps (wanting_job len
            (set_state place (OnJob answers n len) (with_new asked slots)) board) account) numbered
            ∙ ap (λ b. ended (Events.Park worker place (position_or_len (is_job len) board.needs))
            steps b account) parked
            ∙ ap (λ o. ended (Events.Park worker place (position_or_len (is_job o) board.needs))
            steps (park_job rules place job answers asked board) account) (sym last),
        subst (λ b. length b.slots + 1 ≤ new.room) parked
            (subst (λ n. length (set_state place (OnJob answers n len) (with_new asked slots)) + 1
            ≤ new.room) numbered room),
      )

-- what a job that is parked comes to is an answer of its own
pub job_parked_is : {V : Type 0} (o : Option (Result V Refusal)) (way : Option (List ℕ))
    → job_parked o way ≢ Stray
job_parked_is (Some (Ok value)) way e = absurd (cc)
job_parked_is (Some (Err refusal)) way e = absurd (cc)
job_parked_is None (Some places) e = absurd (cc)
job_parked_is None None e = absurd (cc)

pub park_gives : {J V : Type 0} (E : Type 0) (held : Bool) (what parked : Parked) (old new after : Account J V)
    → held ≡ true → what ≢ Stray → parked ≡ what → new ≡ after
    → ParkGives {E = E} held what old new after (Ok parked)
park_gives E held what Stray old new after h off is e = absurd (off (sym is))
park_gives E held what Ready old new after h off is e = (h, sym is, e)
park_gives E held what Waits old new after h off is e = (h, sym is, e)
park_gives E held what Refused old new after h off is e = (h, sym is, e)
park_gives E held what Cycle old new after h off is e = (h, sym is, e)
