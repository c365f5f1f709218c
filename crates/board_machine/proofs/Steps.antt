-- What is known of each job after each event.
use Rattle.std.proofs.Common.{◌≡◌, ℕ, ◌==◌, Bool, true, false, List, [], ◌∷◌, ◌++◌, length, refl}
use Rattle.std.proofs.Common.{ap, sym, ◌∙◌, subst, arith, if◌then◌else◌, Option, None, Some}
use Rattle.std.proofs.Common.{slice_get, ◌⊎◌, inl, inr, is_some}
use Rattle.std.specs.Prelude.{nat_lt}
use Rattle.std.specs.List.{position_or_len}
use Rattle.std.proofs.lemmas.Bool.Decides.{nat_tests}
use Rattle.board_laws.specs.Works.{Rules, Found, Value}
use Rattle.board_laws.specs.Results.{IsGiven, ComesTo, IsRefusedWith}
use Rattle.board_machine.specs.Boards.{State, Queued, Claimed, OnFile, OnJob, Valued, RefusedWith}
use Rattle.board_machine.specs.Boards.{Slot, Needed, File, next_at, map_places, way_to}
use Rattle.board_machine.specs.Kept.{IsSoundState}
use Rattle.board_machine.specs.Moves.{set_state, spread_refusal, with_value, hand_file, woken_state}
use Rattle.board_machine.specs.Moves.{shelved_state, with_need, shelve_need, filled, with_job}
use Rattle.board_machine.specs.Moves.{place_of}
use Rattle.board_machine.proofs.Chases.{walk_way}
use Rattle.board_machine.proofs.Slots.{map_places-stood, map_places-stands, pushed-stood}
use Rattle.board_machine.proofs.Slots.{pushed-stands}
use Rattle.board_machine.proofs.Sounds.{KeepsJobs, KeepsFile, AllSo, carry, way_refused}

pub same_slot : {X : Type 0} {o : Option X} {x y : X} → o ≡ Some x → o ≡ Some y → x ≡ y
same_slot e f = cc

module _ {J A V R : Type 0} (rules : Rules J (List ℕ) A V R) where
  stays : (needs : List (Needed A)) (state : State A V R) → KeepsFile rules needs needs state
  unfolding KeepsFile
  stays needs (OnFile answers need) = λ path e. e
  stays needs (Queued answers) = tt
  stays needs (Claimed worker count) = tt
  stays needs (OnJob answers need place) = tt
  stays needs (Valued v) = tt
  stays needs (RefusedWith r) = tt

  -- a change slot by slot that keeps the jobs
  pub map_places_so : (f : ℕ → Slot J A V R → Slot J A V R) (slots : List (Slot J A V R))
      (needs : List (Needed A)) → ((at : ℕ) (slot : Slot J A V R) → (f at slot).job ≡ slot.job)
      → ((at : ℕ) (slot : Slot J A V R) → slice_get slots at ≡ Some slot
      → IsSoundState rules slots needs slot.job (f at slot).state)
      → AllSo rules (map_places f 0 slots) needs
  unfolding AllSo KeepsJobs KeepsFile
  map_places_so f slots needs jobs new place slot h =
      let r = map_places-stood f slots place slot h in
      let so = carry rules slots (map_places f 0 slots) needs needs r.0.job (f place r.0).state
      (λ p s e. (f p s, map_places-stands f slots p s e, jobs p s))
      (stays needs (f place r.0).state) (new place r.0 r.1) in
      subst (λ s. IsSoundState rules (map_places f 0 slots) needs s.job s.state) (sym r.2)
      (subst (λ j. IsSoundState rules (map_places f 0 slots) needs j (f place r.0).state)
      (sym (jobs place r.0)) so)

  kept_job : (b : Bool) (slot : Slot J A V R) (state : State A V R)
      → (if b then record { job = slot.job; state = state } else slot).job ≡ slot.job
  kept_job true slot state = refl
  kept_job false slot state = refl

  -- one slot in another state
  pub set_state_so : (place : ℕ) (state : State A V R) (slots : List (Slot J A V R))
      (needs : List (Needed A)) (old : Slot J A V R) → AllSo rules slots needs
      → slice_get slots place ≡ Some old
      → IsSoundState rules slots needs old.job state
      → AllSo rules (set_state place state slots) needs
  unfolding AllSo
  set_state_so place state slots needs old all h so =
      map_places_so
      (λ at slot. if at == place then record { job = slot.job; state = state } else slot) slots
      needs
      (λ at slot. kept_job (at == place) slot state) (λ at slot e. new at slot e (at == place) refl)
    where
      new : (at : ℕ) (slot : Slot J A V R) → slice_get slots at ≡ Some slot → (b : Bool)
          → (at == place) ≡ b
          → IsSoundState rules slots needs slot.job
          (if b then record { job = slot.job; state = state } else slot).state
      new at slot e true same =
          let here : at ≡ place = grind (arith, nat_tests) in
          let one : old ≡ slot = cc in
          subst (λ s. IsSoundState rules slots needs s.job state) one so
      new at slot e false other = all at slot e

  -- the refusal of a job and of all that wait for it
  pub spread_refusal_so : (place : ℕ) (r : R) (slots : List (Slot J A V R))
      (needs : List (Needed A)) (old : Slot J A V R) → AllSo rules slots needs
      → slice_get slots place ≡ Some old
      → IsRefusedWith rules old.job r → AllSo rules (spread_refusal place r slots) needs
  unfolding AllSo
  spread_refusal_so place r slots needs old all h so =
      map_places_so
      (λ at slot. if is_some (way_to slots place at)
      then record { job = slot.job; state = RefusedWith r } else slot) slots needs
      (λ at slot. kept_job (is_some (way_to slots place at)) slot (RefusedWith r))
      (λ at slot e. new at slot e (way_to slots place at) refl)
    where
      new : (at : ℕ) (slot : Slot J A V R) → slice_get slots at ≡ Some slot → (o : Option (List ℕ))
          → way_to slots place at ≡ o
          → IsSoundState rules slots needs slot.job
          (if is_some o then record { job = slot.job; state = RefusedWith r } else slot).state
      new at slot e (Some places) way =
          way_refused rules slots needs place old r all h so
          (walk_way (next_at slots) place (length slots) at places way) slot e
      new at slot e None away = all at slot e

  -- the with_value of a job, and those that wait for it
  woken_so : (place : ℕ) (v : V) (slots : List (Slot J A V R)) (needs : List (Needed A))
      (old : Slot J A V R) → slice_get slots place ≡ Some old → ComesTo rules old.job [] v
      → (job : J) (state : State A V R) → IsSoundState rules slots needs job state
      → IsSoundState rules slots needs job (woken_state place v state)
  woken_so place v slots needs old h d job (OnJob answers need other) so = go (other == place) refl
    where
      go : (b : Bool) → (other == place) ≡ b
          → IsSoundState rules slots needs job
          (if b then Queued (Value v ∷ answers) else OnJob answers need other)
      go true same =
          let here : other ≡ place = grind (arith, nat_tests) in
          let stood = so.stands in
          let one : old ≡ so.other = cc in
          IsGiven.value so.is_given so.asks (subst (λ s. ComesTo rules s.job [] v) one d)
      go false away = so
  woken_so place v slots needs old h d job (Queued answers) so = so
  woken_so place v slots needs old h d job (Claimed worker count) so = so
  woken_so place v slots needs old h d job (OnFile answers need) so = so
  woken_so place v slots needs old h d job (Valued w) so = so
  woken_so place v slots needs old h d job (RefusedWith r) so = so

  pub value_so : (place : ℕ) (v : V) (slots : List (Slot J A V R)) (needs : List (Needed A))
      (old : Slot J A V R) → AllSo rules slots needs → slice_get slots place ≡ Some old
      → ComesTo rules old.job [] v → AllSo rules (with_value place v slots) needs
  unfolding AllSo
  value_so place v slots needs old all h so =
      map_places_so
      (λ at slot. record { job = slot.job; state = if at == place then Valued v else woken_state place v slot.state }) slots needs
      (λ at slot. refl) (λ at slot e. new at slot e (at == place) refl)
    where
      new : (at : ℕ) (slot : Slot J A V R) → slice_get slots at ≡ Some slot → (b : Bool)
          → (at == place) ≡ b
          → IsSoundState rules slots needs slot.job
          (if b then Valued v else woken_state place v slot.state)
      new at slot e true same =
          let here : at ≡ place = grind (arith, nat_tests) in
          let one : old ≡ slot = cc in
          subst (λ s. ComesTo rules s.job [] v) one so
      new at slot e false other =
          woken_so place v slots needs old h so slot.job slot.state (all at slot e)

  -- a file that is found, and those that wait for it
  shelved_so : (need : ℕ) (path : List ℕ) (found : A) (slots : List (Slot J A V R))
      (needs : List (Needed A)) → slice_get needs need ≡ Some (File path None)
      → found ≡ rules.file path
      → (job : J) (state : State A V R) → IsSoundState rules slots needs job state
      → IsSoundState rules slots (shelve_need need found needs) job
      (shelved_state need found state)
  shelved_so need path found slots needs h told job (OnFile answers other) so =
      go (other == need) refl
    where
      f : ℕ → Needed A → Needed A
      f at one = if at == need then filled found one else one

      go : (b : Bool) → (other == need) ≡ b
          → IsSoundState rules slots (shelve_need need found needs) job
          (if b then Queued (Found found ∷ answers) else OnFile answers other)
      go true same =
          let here : other ≡ need = grind (arith, nat_tests) in
          let stood = so.stands in
          let one : so.path ≡ path = cc in
          subst (λ a. IsGiven rules job (Found a ∷ answers)) (ap rules.file one ∙ sym told)
          (IsGiven.file so.is_given so.reads)
      go false away =
          record {
            path = so.path;
            stands = map_places-stands (λ at one. if at == need then filled found one else one) needs other (File so.path None) so.stands ∙ ap (λ b. Some (if b then filled found (File so.path None) else File so.path None)) away;
            is_given = so.is_given;
            reads = so.reads;
          }
  shelved_so need path found slots needs h told job (OnJob answers other place) so =
      record { other = so.other; stands = so.stands; is_given = so.is_given; asks = so.asks }
  shelved_so need path found slots needs h told job (Queued answers) so = so
  shelved_so need path found slots needs h told job (Claimed worker count) so = so
  shelved_so need path found slots needs h told job (Valued w) so = so
  shelved_so need path found slots needs h told job (RefusedWith r) so = so

  pub hand_file_so : (need : ℕ) (path : List ℕ) (found : A) (slots : List (Slot J A V R))
      (needs : List (Needed A)) → AllSo rules slots needs
      → slice_get needs need ≡ Some (File path None)
      → found ≡ rules.file path
      → AllSo rules (hand_file need found slots) (shelve_need need found needs)
  unfolding AllSo
  hand_file_so need path found slots needs all h told =
      map_places_so
      (λ at slot. record { job = slot.job; state = shelved_state need found slot.state }) slots
      (shelve_need need found needs)
      (λ at slot. refl)
      (λ at slot e. shelved_so need path found slots needs h told slot.job slot.state
      (all at slot e))

  -- a further need, and a further job
  wanted_keeps : (test : Needed A → Bool) (need : Needed A) (needs : List (Needed A))
      (state : State A V R) → KeepsFile rules needs (with_need test need needs) state
  unfolding KeepsFile
  wanted_keeps test need needs (OnFile answers at) =
      λ path e. go path e (nat_lt (position_or_len test needs) (length needs))
    where
      go : (path : List ℕ) → slice_get needs at ≡ Some (File path None) → (b : Bool)
          → slice_get (if b then needs else needs ++ need ∷ []) at ≡ Some (File path None)
      go path e true = e
      go path e false = pushed-stands needs need at (File path None) e
  wanted_keeps test need needs (Queued answers) = tt
  wanted_keeps test need needs (Claimed worker count) = tt
  wanted_keeps test need needs (OnJob answers other place) = tt
  wanted_keeps test need needs (Valued v) = tt
  wanted_keeps test need needs (RefusedWith r) = tt

  pub wanted_so : (test : Needed A → Bool) (need : Needed A) (slots : List (Slot J A V R))
      (needs : List (Needed A)) → AllSo rules slots needs
      → AllSo rules slots (with_need test need needs)
  unfolding AllSo KeepsJobs
  wanted_so test need slots needs all place slot h =
      carry rules slots slots needs (with_need test need needs) slot.job slot.state
      (λ p s e. (s, e, refl)) (wanted_keeps test need needs slot.state) (all place slot h)

  pub added_so : (job : J) (slots : List (Slot J A V R)) (needs : List (Needed A))
      → AllSo rules slots needs → AllSo rules (with_job rules job slots) needs
  unfolding AllSo KeepsJobs KeepsFile
  added_so job slots needs all = go (nat_lt (place_of rules job slots) (length slots))
    where
      push : (place : ℕ) (slot : Slot J A V R)
          → slice_get (slots ++ record { job = job; state = Queued [] } ∷ []) place ≡ Some slot
          → IsSoundState rules (slots ++ record { job = job; state = Queued [] } ∷ []) needs
          slot.job slot.state
      push place slot h =
          pushed (pushed-stood slots (record { job = job; state = Queued [] }) place slot h)
        where
          pushed : (slice_get slots place ≡ Some slot)
              ⊎ ((place ≡ length slots) × (slot ≡ record { job = job; state = Queued [] }))
              → IsSoundState rules (slots ++ record { job = job; state = Queued [] } ∷ []) needs
              slot.job slot.state
          pushed (inl e) =
              carry rules slots (slots ++ record { job = job; state = Queued [] } ∷ []) needs needs
              slot.job slot.state
              (λ p s g. (s, pushed-stands slots (record { job = job; state = Queued [] }) p s g, refl)) (stays needs slot.state) (all place slot e)
          pushed (inr r) =
              subst (λ s. IsSoundState rules (slots ++ record { job = job; state = Queued [] } ∷ []) needs s.job s.state) (sym r.1) IsGiven.none

      go : (b : Bool) (place : ℕ) (slot : Slot J A V R)
          → slice_get (if b then slots else slots ++ record { job = job; state = Queued [] } ∷ [])
          place ≡ Some slot
          → IsSoundState rules
          (if b then slots else slots ++ record { job = job; state = Queued [] } ∷ []) needs
          slot.job slot.state
      go true = all
      go false = push
