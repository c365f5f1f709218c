-- A job that parks on another one is an event of the board.
use Rattle.std.proofs.Common.{◌≡◌, ◌≢◌, ℕ, zero, suc, ◌+◌, ◌<◌, ◌≤◌, ◌==◌, Bool, true, false, List, [], ◌∷◌}
use Rattle.std.proofs.Common.{◌++◌, length, refl, ap, sym, ◌∙◌, subst, arith, Option, Some, None}
use Rattle.std.proofs.Common.{slice_get, Result, Ok, Err, ◌⊎◌, inl, inr}
use Rattle.std.specs.Prelude.{if◌then◌else◌, min, nat_lt, option_map}
use Rattle.std.specs.List.{position_or_len}
use Rattle.std.proofs.lemmas.Bool.Decides.{nat_tests}
use Rattle.bz_base.specs.Counts.{last_count}
use Rattle.bz_base.specs.declared.refusals.Refusal.{Refusal}
use Rattle.bz_tree.specs.declared.tree.Found.{Found}
use Rattle.bz_tree.specs.declared.tree.Found
use Rattle.board_laws.specs.Recursive.{cycle_of}
use Rattle.board_laws.specs.Results.{IsGiven}
use Rattle.board_laws.specs.Works.{Answer, Asks, Lawful, Rules, Value}
use Rattle.board_machine.specs.Boards.{Board, Claimed, Job, OnFile, OnJob, Queued, RefusedWith, Slot}
use Rattle.board_machine.specs.Boards.{State, Valued, jobs_at, next_at, next_of, walk, way_to}
use Rattle.board_machine.specs.Events.{asks, result_of}
use Rattle.board_machine.specs.Events
use Rattle.board_machine.specs.Moves.{is_job, job_put, park_job, place_of, set_state, spread_refusal}
use Rattle.board_machine.specs.Moves.{state_in, with_job}
use Rattle.board_machine.proofs.Asks.{asks_linked}
use Rattle.board_machine.proofs.Slots.{pushed-last}
use Rattle.board_slots.specs.Claims.{is_held}
use Rattle.board_slots.specs.Views.{bare_rules}
use Rattle.board_work.specs.Turns.{Meaning, rules_of}
use Rattle.board_core.specs.Accounts.{Table, cycle_closed, ended, wanting_job}
use Rattle.board_jobs.specs.Taking.{with_new}
use Rattle.board_core.specs.Calls.{outcome_in}
use Rattle.board_core.specs.Histories.{IsHistory, IsKept, IsLinkedFor, happens}
use Rattle.board_core.specs.Replays.{IsClaimedAt, IsReplay}
use Rattle.board_core.specs.Replays
use Rattle.board_core.proofs.Keeping.{claimed_at, event_kept, held_stands, holds_of, steps_same, told_history}

module _ {J V : Type 0} (rules : Rules J (List ℕ) Found V Refusal) where
  -- what becomes of a claimed job, by what the asked one came to
  pub put_value : (place : ℕ) (job : J) (answers : List (Answer Found V)) (need other : ℕ)
      (way : Option (List ℕ)) (state : State Found V Refusal) (slots : List (Slot J Found V Refusal))
      (value : V) → result_of state ≡ Some (Ok value)
      → set_state place (Queued (Value value ∷ answers)) slots
      ≡ job_put rules place job answers need other way state slots
  put_value place job answers need other way (Valued v) slots value e =
      let same : value ≡ v = cc in ap (λ x. set_state place (Queued (Value x ∷ answers)) slots) same
  put_value place job answers need other way (RefusedWith r) slots value e = absurd (cc)
  put_value place job answers need other way (Queued given) slots value e = absurd (cc)
  put_value place job answers need other way (Claimed w n) slots value e = absurd (cc)
  put_value place job answers need other way (OnFile given n) slots value e = absurd (cc)
  put_value place job answers need other way (OnJob given n p) slots value e = absurd (cc)

  pub put_refusal : (place : ℕ) (job : J) (answers : List (Answer Found V)) (need other : ℕ)
      (way : Option (List ℕ)) (state : State Found V Refusal) (slots : List (Slot J Found V Refusal))
      (refusal : Refusal) → result_of state ≡ Some (Err refusal)
      → spread_refusal place refusal slots
      ≡ job_put rules place job answers need other way state slots
  put_refusal place job answers need other way (Valued v) slots refusal e = absurd (cc)
  put_refusal place job answers need other way (RefusedWith r) slots refusal e =
      let same : refusal ≡ r = cc in ap (λ x. spread_refusal place x slots) same
  put_refusal place job answers need other way (Queued given) slots refusal e = absurd (cc)
  put_refusal place job answers need other way (Claimed w n) slots refusal e = absurd (cc)
  put_refusal place job answers need other way (OnFile given n) slots refusal e = absurd (cc)
  put_refusal place job answers need other way (OnJob given n p) slots refusal e = absurd (cc)

  pub put_cycle : (place : ℕ) (job : J) (answers : List (Answer Found V)) (need other : ℕ)
      (way : Option (List ℕ)) (state : State Found V Refusal) (slots : List (Slot J Found V Refusal))
      (refusal : Refusal) → result_of state ≡ None
      → option_map (λ places. cycle_of rules (job ∷ jobs_at slots places)) way ≡ Some refusal
      → spread_refusal place refusal slots
      ≡ job_put rules place job answers need other way state slots
  put_cycle place job answers need other None state slots refusal e f = absurd (cc)
  put_cycle place job answers need other (Some places) (Valued v) slots refusal e f = absurd (cc)
  put_cycle place job answers need other (Some places) (RefusedWith r) slots refusal e f = absurd (cc)
  put_cycle place job answers need other (Some places) (Queued given) slots refusal e f =
      let same : refusal ≡ cycle_of rules (job ∷ jobs_at slots places) = cc in
      ap (λ x. spread_refusal place x slots) same
  put_cycle place job answers need other (Some places) (Claimed w n) slots refusal e f =
      let same : refusal ≡ cycle_of rules (job ∷ jobs_at slots places) = cc in
      ap (λ x. spread_refusal place x slots) same
  put_cycle place job answers need other (Some places) (OnFile given n) slots refusal e f =
      let same : refusal ≡ cycle_of rules (job ∷ jobs_at slots places) = cc in
      ap (λ x. spread_refusal place x slots) same
  put_cycle place job answers need other (Some places) (OnJob given n p) slots refusal e f =
      let same : refusal ≡ cycle_of rules (job ∷ jobs_at slots places) = cc in
      ap (λ x. spread_refusal place x slots) same

  pub put_waiting : (place : ℕ) (job : J) (answers : List (Answer Found V)) (need other : ℕ)
      (way : Option (List ℕ)) (state : State Found V Refusal) (slots : List (Slot J Found V Refusal))
      → result_of state ≡ None
      → option_map (λ places. cycle_of rules (job ∷ jobs_at slots places)) way ≡ None
      → set_state place (OnJob answers need other) slots
      ≡ job_put rules place job answers need other way state slots
  put_waiting place job answers need other (Some places) state slots e f = absurd (cc)
  put_waiting place job answers need other None (Valued v) slots e f = absurd (cc)
  put_waiting place job answers need other None (RefusedWith r) slots e f = absurd (cc)
  put_waiting place job answers need other None (Queued given) slots e f = refl
  put_waiting place job answers need other None (Claimed w n) slots e f = refl
  put_waiting place job answers need other None (OnFile given n) slots e f = refl
  put_waiting place job answers need other None (OnJob given n p) slots e f = refl

  -- a job that stands isn't added
  pub known_job : (asked : J) (slots : List (Slot J Found V Refusal))
      → nat_lt (place_of rules asked slots) (length slots) ≡ true
      → with_job rules asked slots ≡ slots
  known_job asked slots known = ap (λ b. if b then slots else with_new asked slots) known

  pub state_result : (o : Option (Slot J Found V Refusal)) (r : Option (Result V Refusal))
      → outcome_in o ≡ r → r ≢ None → result_of (state_in o) ≡ r
  state_result None r e off = absurd (off (sym e))
  state_result (Some slot) r e off = e

  pub state_open : (o : Option (Slot J Found V Refusal)) → outcome_in o ≡ None
      → result_of (state_in o) ≡ None
  state_open None e = refl
  state_open (Some slot) e = e

module _ {J V : Type 0} (meaning : Meaning J V) (files : Option (List ℕ → Found)) (goals : List J)
    (law : (file : List ℕ → Found) → Lawful (rules_of meaning file)) where
  asked_linked : (board : Board J Found V Refusal) (job asked : J) (worker count place : ℕ)
      (answers : List (Answer Found V))
      → is_held meaning.text job worker count (slice_get board.slots place) ≡ true
      → meaning.own job ≡ true → meaning.run job answers ≡ Asks asked
      → IsLinkedFor meaning board.slots
      → IsLinkedFor meaning (park_job (bare_rules meaning) place job answers asked board).slots
  asked_linked board job asked worker count place answers held own run linked =
      let r = held_stands meaning.text job worker count place board.slots held in
      let bare = law (λ path. Found.TheVariants.Absent) in
      asks_linked (bare_rules meaning) bare board place job asked answers r.0 linked r.1
      (ap next_of r.2) (bare.owns job asked answers own run)

  pub job_parked_kept : (old new : Table J V) (job asked : J) (worker count place steps : ℕ)
      (answers : List (Answer Found V))
      → is_held meaning.text job worker count (slice_get old.account.board.slots place) ≡ true
      → meaning.own job ≡ true
      → meaning.run job answers ≡ Asks asked
      → length answers ≡ count
      → steps ≡ min (meaning.ticks job answers) last_count
      → ((file : List ℕ → Found) → files ≡ Some file → IsGiven (rules_of meaning file) job answers)
      → new.account ≡ ended
      (Events.Park worker place (position_or_len (is_job (place_of (bare_rules meaning) asked old.account.board.slots)) old.account.board.needs)) steps
      (park_job (bare_rules meaning) place job answers asked old.account.board) old.account
      → length (park_job (bare_rules meaning) place job answers asked old.account.board).slots + 1 ≤ new.room
      → IsKept meaning files goals old → IsKept meaning files goals new
  job_parked_kept old new job asked worker count place steps answers held own run many ticked given
      event room kept =
      let board = old.account.board in
      let need = position_or_len (is_job (place_of (bare_rules meaning) asked board.slots)) board.needs in
      event_kept meaning files goals old new (Events.Park worker place need)
      (subst (λ a. IsLinkedFor meaning a.board.slots) (sym event)
      (asked_linked board job asked worker count place answers held own run kept.linked))
      (subst (λ a. length a.board.slots + 1 ≤ new.room) (sym event) room)
      (subst (λ a. IsReplay (bare_rules meaning) goals a.journal a.board) (sym event)
      (Replays.happens kept.replay (Replays.asks (subst (IsClaimedAt board worker place job)
      (sym many) (claimed_at meaning files goals law board job worker count place held own kept.linked))
      run)))
      (λ file e. subst (λ a. IsHistory (rules_of meaning file) meaning.ticks goals a.journal a.board
      a.spent) (sym event)
      (subst (IsHistory (rules_of meaning file) meaning.ticks goals
      (old.account.journal ++ Events.Park worker place need ∷ [])
      (park_job (bare_rules meaning) place job answers asked board))
      (sym (steps_same old.account.spent (meaning.ticks job answers) steps ticked))
      (happens (told_history meaning files goals file old e kept)
      (asks (holds_of meaning files goals law file board job worker count place answers held own kept.linked (given file e) many) run))))
