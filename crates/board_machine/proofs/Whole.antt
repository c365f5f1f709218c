-- Every list of events from the opening.
use Rattle.std.proofs.Common.{◌≡◌, ℕ, ◌==◌, Bool, true, false, List, [], ◌∷◌, ◌++◌, length, refl}
use Rattle.std.proofs.Common.{ap, sym, ◌∙◌, subst, arith, if◌then◌else◌, Option, None, Some}
use Rattle.std.proofs.Common.{slice_get, is_some, Result, Ok, Err}
use Rattle.std.specs.Prelude.{nat_lt}
use Rattle.std.specs.List.{position_or_len}
use Rattle.std.proofs.lemmas.Bool.Decides.{nat_tests}
use Rattle.board_laws.specs.Works.{Answer, Rules, Lawful, Value, Found}
use Rattle.board_laws.specs.Recursive.{Recursive, cycle_of}
use Rattle.board_laws.specs.Results.{HasResult, LeadsTo, AllDiffer, AllOwn}
use Rattle.board_laws.specs.Bounds.{Bounded}
use Rattle.board_laws.proofs.Outcomes.{result_recursive}
use Rattle.board_machine.specs.Boards.{State, Queued, Claimed, OnFile, OnJob, Valued, RefusedWith}
use Rattle.board_machine.specs.Boards.{Slot, Needed, File, Job, Board, next_of, next_in, next_at}
use Rattle.board_machine.specs.Boards.{way_to, jobs_at}
use Rattle.board_machine.specs.Kept.{IsSoundState, IsLinked, here}
use Rattle.board_machine.specs.Moves.{set_state, spread_refusal, with_value, hand_file, with_job}
use Rattle.board_machine.specs.Moves.{place_of, woken_state, shelved_state, job_put, file_put}
use Rattle.board_machine.specs.Moves.{state_in, is_job, is_file, first_queued, count_in}
use Rattle.board_machine.specs.Events.{Event, Step, claims, reads, asks, values, refuses, shelves}
use Rattle.board_machine.specs.Events.{halts, Run, nothing, more, Kept, with_jobs, begin, IsDone}
use Rattle.board_machine.specs.Events.{result_of}
use Rattle.board_machine.proofs.Chases.{Way, walk_way}
use Rattle.board_machine.proofs.Slots.{map_places-stands, pushed-stands}
use Rattle.board_machine.proofs.Sounds.{AllSo}
use Rattle.board_machine.proofs.Steps.{added_so}
use Rattle.board_machine.proofs.Links.{added_linked}
use Rattle.board_machine.proofs.Keeping.{run_kept}

module _ {J A V R : Type 0} (rules : Rules J (List ℕ) A V R) where
  no_slots : IsLinked rules []
  no_slots = record { own = λ place slot h. absurd (cc); apart = λ i k one other h g e. absurd (cc); linked = λ place other e. absurd (cc); rests = λ place. here refl }

  goals_linked : (goals : List J) (slots : List (Slot J A V R)) → AllOwn rules goals
      → IsLinked rules slots → IsLinked rules (with_jobs rules goals slots)
  goals_linked [] slots AllOwn.nil kept = kept
  goals_linked (goal ∷ goals) slots (AllOwn.cons own owned) kept =
      goals_linked goals (with_job rules goal slots) owned (added_linked rules goal slots own kept)

  goals_so : (goals : List J) (slots : List (Slot J A V R)) → AllSo rules slots []
      → AllSo rules (with_jobs rules goals slots) []
  goals_so [] slots so = so
  goals_so (goal ∷ goals) slots so =
      goals_so goals (with_job rules goal slots) (added_so rules goal slots [] so)

  pub begin_kept : (goals : List J) → AllOwn rules goals → Kept rules (begin rules goals)
  unfolding AllSo
  begin_kept goals owned = record {
    sound = record { stand = goals_so goals [] (λ place slot h. absurd (cc)); shelf = λ need path found h. absurd (cc) };
    linked = goals_linked goals [] owned no_slots;
  }

  so_result : (slots : List (Slot J A V R)) (needs : List (Needed A)) (job : J)
      (state : State A V R) (o : Result V R) → IsSoundState rules slots needs job state
      → result_of state ≡ Some o → HasResult rules job o
  so_result slots needs job (Valued v) o so e = let same : Ok v ≡ o = cc in
      subst (HasResult rules job) same so
  so_result slots needs job (RefusedWith r) o so e = let same : Err r ≡ o = cc in
      subst (HasResult rules job) same so
  so_result slots needs job (Queued answers) o so e = absurd (cc)
  so_result slots needs job (Claimed worker count) o so e = absurd (cc)
  so_result slots needs job (OnFile answers need) o so e = absurd (cc)
  so_result slots needs job (OnJob answers need place) o so e = absurd (cc)

  -- over every list of events each job that is done has the result of recursive evaluation
  pub every_result : (law : Lawful rules) (bounds : Bounded rules) (goals : List J)
      → AllOwn rules goals → {events : List Event} {after : Board J A V R}
      → Run rules (begin rules goals) events after
      → (place : ℕ) (slot : Slot J A V R) → slice_get after.slots place ≡ Some slot
      → (o : Result V R) → result_of slot.state ≡ Some o → Recursive rules [] slot.job o
  every_result law bounds goals owned {after = after} run place slot h o e =
      let kept = run_kept rules law (begin_kept goals owned) run in
      result_recursive rules law bounds [] slot.job o
      (record { leads = LeadsTo.nil; apart = AllDiffer.nil; owned = AllOwn.cons (kept.linked.own place slot h) AllOwn.nil })
      (so_result after.slots after.needs slot.job slot.state o (kept.sound.stand place slot h) e)

  -- what is done stays
  apart_states : {old slot : Slot J A V R} {o : Option (Slot J A V R)} → o ≡ Some old
      → o ≡ Some slot → (IsDone old.state → ⊥) → IsDone slot.state → ⊥
  apart_states {old} {slot} e f away done = let same : slot ≡ old = cc in
      away (subst (λ s. IsDone s.state) same done)

  done_next : (state : State A V R) → IsDone state → next_of state ≡ None
  done_next (Valued v) done = refl
  done_next (RefusedWith r) done = refl
  done_next (Queued answers) done = elim done [ ]
  done_next (Claimed worker count) done = elim done [ ]
  done_next (OnFile answers need) done = elim done [ ]
  done_next (OnJob answers need place) done = elim done [ ]

  set_state_stays : (place : ℕ) (state : State A V R) (slots : List (Slot J A V R))
      (old : Slot J A V R) → slice_get slots place ≡ Some old → (IsDone old.state → ⊥)
      → (at : ℕ) (slot : Slot J A V R) → slice_get slots at ≡ Some slot → IsDone slot.state
      → slice_get (set_state place state slots) at ≡ Some slot
  set_state_stays place state slots old h away at slot g done =
      map_places-stands
      (λ at slot. if at == place then record { job = slot.job; state = state } else slot) slots
      at slot g ∙ go (at == place) refl
    where
      go : (b : Bool) → (at == place) ≡ b
          → Some (if b then record { job = slot.job; state = state } else slot) ≡ Some slot
      go true e = let same : at ≡ place = grind (arith, nat_tests) in
          absurd (apart_states h (sym (ap (slice_get slots) same) ∙ g) away done)
      go false e = refl

  spread_refusal_stays : (place : ℕ) (r : R) (slots : List (Slot J A V R)) (old : Slot J A V R)
      → slice_get slots place ≡ Some old → (IsDone old.state → ⊥)
      → (at : ℕ) (slot : Slot J A V R) → slice_get slots at ≡ Some slot → IsDone slot.state
      → slice_get (spread_refusal place r slots) at ≡ Some slot
  spread_refusal_stays place r slots old h away at slot g done =
      map_places-stands
      (λ at slot. if is_some (way_to slots place at)
      then record { job = slot.job; state = RefusedWith r } else slot) slots at slot g
      ∙ go (way_to slots place at) refl
    where
      no_way : {at : ℕ} {places : List ℕ} → Way (next_at slots) place at places
          → slice_get slots at ≡ Some slot → ⊥
      no_way (Way.here e) f = apart_states h (sym (ap (slice_get slots) e) ∙ f) away done
      no_way (Way.on off n way) f = let none = done_next slot.state done in let gone =
          ap next_in f in absurd (cc)

      go : (o : Option (List ℕ)) → way_to slots place at ≡ o
          → Some (if is_some o then record { job = slot.job; state = RefusedWith r } else slot) ≡
          Some slot
      go None e = refl
      go (Some places) e =
          absurd (no_way (walk_way (next_at slots) place (length slots) at places e) g)

  with_value_stays : (place : ℕ) (v : V) (slots : List (Slot J A V R)) (old : Slot J A V R)
      → slice_get slots place ≡ Some old → (IsDone old.state → ⊥)
      → (at : ℕ) (slot : Slot J A V R) → slice_get slots at ≡ Some slot → IsDone slot.state
      → slice_get (with_value place v slots) at ≡ Some slot
  with_value_stays place v slots old h away at slot g done =
      map_places-stands
      (λ at slot. record { job = slot.job; state = if at == place then Valued v else woken_state place v slot.state }) slots at slot g ∙ go (at == place) refl
    where
      same_woken : (state : State A V R) → IsDone state → woken_state place v state ≡ state
      same_woken (Valued w) d = refl
      same_woken (RefusedWith r) d = refl
      same_woken (Queued answers) d = elim d [ ]
      same_woken (Claimed worker count) d = elim d [ ]
      same_woken (OnFile answers need) d = elim d [ ]
      same_woken (OnJob answers need place) d = elim d [ ]

      go : (b : Bool) → (at == place) ≡ b
          → Some (record { job = slot.job; state = if b then Valued v else woken_state place v slot.state }) ≡ Some slot
      go true e = let same : at ≡ place = grind (arith, nat_tests) in
          absurd (apart_states h (sym (ap (slice_get slots) same) ∙ g) away done)
      go false e =
          ap (λ s. Some (record { job = slot.job; state = s })) (same_woken slot.state done)

  hand_file_stays : (need : ℕ) (found : A) (slots : List (Slot J A V R)) (at : ℕ)
      (slot : Slot J A V R) → slice_get slots at ≡ Some slot → IsDone slot.state
      → slice_get (hand_file need found slots) at ≡ Some slot
  hand_file_stays need found slots at slot g done =
      map_places-stands
      (λ at slot. record { job = slot.job; state = shelved_state need found slot.state }) slots
      at slot g ∙ ap (λ s. Some (record { job = slot.job; state = s })) (same_shelved slot.state done)
    where
      same_shelved : (state : State A V R) → IsDone state → shelved_state need found state ≡ state
      same_shelved (Valued w) d = refl
      same_shelved (RefusedWith r) d = refl
      same_shelved (Queued answers) d = elim d [ ]
      same_shelved (Claimed worker count) d = elim d [ ]
      same_shelved (OnFile answers need) d = elim d [ ]
      same_shelved (OnJob answers need place) d = elim d [ ]

  added_stands : (job : J) (slots : List (Slot J A V R)) (at : ℕ) (slot : Slot J A V R)
      → slice_get slots at ≡ Some slot → slice_get (with_job rules job slots) at ≡ Some slot
  added_stands job slots at slot h = go (nat_lt (place_of rules job slots) (length slots))
    where
      go : (b : Bool)
          → slice_get (if b then slots else slots ++ record { job = job; state = Queued [] } ∷ [])
          at ≡ Some slot
      go true = h
      go false = pushed-stands slots (record { job = job; state = Queued [] }) at slot h

  claimed_open : {old : State A V R} {worker count : ℕ} → old ≡ Claimed worker count → IsDone old
      → ⊥
  claimed_open e done = subst IsDone e done

  queued_open : {old : State A V R} {answers : List (Answer A V)} → old ≡ Queued answers
      → IsDone old → ⊥
  queued_open e done = subst IsDone e done

  file_put_stays : (place : ℕ) (answers : List (Answer A V)) (need : ℕ) (o : Option (Needed A))
      (slots : List (Slot J A V R)) (old : Slot J A V R) → slice_get slots place ≡ Some old
      → (IsDone old.state → ⊥)
      → (at : ℕ) (slot : Slot J A V R) → slice_get slots at ≡ Some slot → IsDone slot.state
      → slice_get (file_put place answers need o slots) at ≡ Some slot
  file_put_stays place answers need (Some (File path (Some found))) slots old h away at slot g
      done = set_state_stays place (Queued (Found found ∷ answers)) slots old h away at slot g done
  file_put_stays place answers need (Some (File path None)) slots old h away at slot g done =
      set_state_stays place (OnFile answers need) slots old h away at slot g done
  file_put_stays place answers need (Some (Job other)) slots old h away at slot g done =
      set_state_stays place (OnFile answers need) slots old h away at slot g done
  file_put_stays place answers need None slots old h away at slot g done =
      set_state_stays place (OnFile answers need) slots old h away at slot g done

  job_put_stays : (place : ℕ) (job : J) (answers : List (Answer A V)) (need other : ℕ)
      (way : Option (List ℕ)) (state : State A V R) (slots : List (Slot J A V R))
      (old : Slot J A V R)
      → slice_get slots place ≡ Some old → (IsDone old.state → ⊥)
      → (at : ℕ) (slot : Slot J A V R) → slice_get slots at ≡ Some slot → IsDone slot.state
      → slice_get (job_put rules place job answers need other way state slots) at ≡ Some slot
  job_put_stays place job answers need other way (Valued v) slots old h away at slot g done =
      set_state_stays place (Queued (Value v ∷ answers)) slots old h away at slot g done
  job_put_stays place job answers need other way (RefusedWith r) slots old h away at slot g done =
      spread_refusal_stays place r slots old h away at slot g done
  job_put_stays place job answers need other (Some places) (Queued xs) slots old h away at slot g
      done = spread_refusal_stays place (cycle_of rules (job ∷ jobs_at slots places)) slots old h away at slot g done
  job_put_stays place job answers need other None (Queued xs) slots old h away at slot g done =
      set_state_stays place (OnJob answers need other) slots old h away at slot g done
  job_put_stays place job answers need other (Some places) (Claimed w n) slots old h away at slot g
      done = spread_refusal_stays place (cycle_of rules (job ∷ jobs_at slots places)) slots old h away at slot g done
  job_put_stays place job answers need other None (Claimed w n) slots old h away at slot g done =
      set_state_stays place (OnJob answers need other) slots old h away at slot g done
  job_put_stays place job answers need other (Some places) (OnFile xs n) slots old h away at slot g
      done = spread_refusal_stays place (cycle_of rules (job ∷ jobs_at slots places)) slots old h away at slot g done
  job_put_stays place job answers need other None (OnFile xs n) slots old h away at slot g done =
      set_state_stays place (OnJob answers need other) slots old h away at slot g done
  job_put_stays place job answers need other (Some places) (OnJob xs n p) slots old h away at slot g
      done = spread_refusal_stays place (cycle_of rules (job ∷ jobs_at slots places)) slots old h away at slot g done
  job_put_stays place job answers need other None (OnJob xs n p) slots old h away at slot g done =
      set_state_stays place (OnJob answers need other) slots old h away at slot g done

  pub step_stays : {board after : Board J A V R} {event : Event} → Step rules board event after
      → (at : ℕ) (slot : Slot J A V R) → slice_get board.slots at ≡ Some slot → IsDone slot.state
      → slice_get after.slots at ≡ Some slot
  step_stays (claims {board = board} {worker = worker} {slot = old} over h queued) at slot g done =
      set_state_stays (first_queued board.slots)
      (Claimed worker (count_in (state_in (slice_get board.slots (first_queued board.slots)))))
      board.slots old h (queued_open queued) at slot g done
  step_stays (reads {board = board} {place = place} {answers = answers} {path = path} held e) at
      slot g done =
      file_put_stays place answers (position_or_len (is_file path) board.needs)
      (slice_get board.needs (position_or_len (is_file path) board.needs)) board.slots held.slot
      held.stands (claimed_open held.claimed) at slot g done
  step_stays (asks {board = board} {place = place} {job = job} {asked = asked} {answers = answers} held e) at slot g done =
      let slots = with_job rules asked board.slots in
      let other = place_of rules asked board.slots in
      job_put_stays place job answers (position_or_len (is_job other) board.needs) other
      (way_to slots place other) (state_in (slice_get slots other)) slots held.slot
      (added_stands asked board.slots place held.slot held.stands) (claimed_open held.claimed) at
      slot (added_stands asked board.slots at slot g) done
  step_stays (values {board = board} {place = place} {v = v} held e) at slot g done =
      with_value_stays place v board.slots held.slot held.stands (claimed_open held.claimed) at slot g
      done
  step_stays (refuses {board = board} {place = place} {r = r} held e) at slot g done =
      spread_refusal_stays place r board.slots held.slot held.stands (claimed_open held.claimed) at
      slot g done
  step_stays (shelves {board = board} {need = need} {path = path} h) at slot g done =
      hand_file_stays need (rules.file path) board.slots at slot g done
  step_stays (halts e) at slot g done = g

  pub run_stays : {board after : Board J A V R} {events : List Event} → Run rules board events after
      → (at : ℕ) (slot : Slot J A V R) → slice_get board.slots at ≡ Some slot → IsDone slot.state
      → slice_get after.slots at ≡ Some slot
  run_stays nothing at slot g done = g
  run_stays (more step rest) at slot g done =
      run_stays rest at slot (step_stays step at slot g done) done
