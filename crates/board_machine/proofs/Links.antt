-- Each step keeps the chains of parked jobs open.
use Rattle.std.proofs.Common.{◌≡◌, ◌≢◌, ℕ, zero, suc, ◌<◌, ◌==◌, Bool, true, false, List, [], ◌∷◌}
use Rattle.std.proofs.Common.{◌++◌, length, refl, ap, sym, ◌∙◌, subst, arith, if◌then◌else◌, Option}
use Rattle.std.proofs.Common.{None, Some, option_map, slice_get, ◌⊎◌, inl, inr, is_some}
use Rattle.std.specs.Prelude.{nat_lt}
use Rattle.std.specs.Str.{bytes_eq}
use Rattle.std.proofs.lemmas.Bool.{cases_eq}
use Rattle.std.proofs.lemmas.Option.{slice_get_within}
use Rattle.std.proofs.lemmas.Bool.Decides.{nat_tests}
use Rattle.board_laws.specs.Works.{Answer, Rules, Value, Found}
use Rattle.board_laws.specs.Recursive.{same_job}
use Rattle.board_laws.proofs.Turning.{text_itself}
use Rattle.board_machine.specs.Boards.{State, Queued, Claimed, OnFile, OnJob, Valued, RefusedWith}
use Rattle.board_machine.specs.Boards.{Slot, next_of, next_in, next_at, map_places, way_to}
use Rattle.board_machine.specs.Kept.{ChainEnds, here, goes, IsOpen, OpenAt, IsLinked}
use Rattle.board_machine.specs.Moves.{set_state, spread_refusal, with_value, hand_file, woken_state}
use Rattle.board_machine.specs.Moves.{shelved_state, with_job, place_of}
use Rattle.board_machine.proofs.Chases.{Way, walk_way, walk_none}
use Rattle.board_machine.proofs.Slots.{map_places-stood, map_places-stands, get-each, pushed-stood}
use Rattle.board_machine.proofs.Slots.{pushed-stands, position_found}

itself : (n : ℕ) → n == n ≡ true
itself n = grind (arith, nat_tests)

others : (n m : ℕ) → n ≢ m → n == m ≡ false
others n m off = grind (arith, nat_tests)

some_same : {x y : ℕ} → Some x ≡ Some y → x ≡ y
some_same e = cc

-- fewer links
rests_less : {next after : ℕ → Option ℕ} → ((at : ℕ) → (after at ≡ next at) ⊎ (after at ≡ None))
    → {at : ℕ} → ChainEnds next at → ChainEnds after at
rests_less {next} {after} less (here {place = place} e) = go (less place)
  where
    go : (after place ≡ next place) ⊎ (after place ≡ None) → ChainEnds after place
    go (inl same) = here (same ∙ e)
    go (inr none) = here none
rests_less {next} {after} less (goes {place = place} {other = other} n r) =
    go (less place) (rests_less less r)
  where
    go : (after place ≡ next place) ⊎ (after place ≡ None) → ChainEnds after other
        → ChainEnds after place
    go (inl same) rest = goes (same ∙ n) rest
    go (inr none) rest = here none

-- one more link, from a place that had none to one that doesn't lead to it
module _ (next after : ℕ → Option ℕ) (place other : ℕ) (none : next place ≡ None)
    (links : after place ≡ Some other) (same : (at : ℕ) → at ≢ place → after at ≡ next at) where
  rests_away : {at : ℕ} → ChainEnds next at → ((places : List ℕ) → Way next place at places → ⊥)
      → ChainEnds after at
  rests_away (here {place = at} e) away = here (same at (λ is. away [] (Way.here is)) ∙ e)
  rests_away (goes {place = at} {other = further} n r) away =
      let off : at ≢ place = λ is. away [] (Way.here is) in
      goes (same at off ∙ n) (rests_away r (λ places way. away (at ∷ places) (Way.on off n way)))

  rests_more : {at : ℕ} → ChainEnds next other
      → ((places : List ℕ) → Way next place other places → ⊥) → ChainEnds next at
      → ChainEnds after at
  rests_more end away (here {place = at} e) = go (cases_eq at place)
    where
      go : (at ≡ place) ⊎ (at ≡ place → ⊥) → ChainEnds after at
      go (inl is) = goes (ap after is ∙ links) (rests_away end away)
      go (inr off) = here (same at off ∙ e)
  rests_more end away (goes {place = at} {other = further} n r) =
      goes (same at (λ is. let gone : next at ≡ None = ap next is ∙ none in absurd (clash gone n)) ∙ n) (rests_more end away r)
    where
      clash : {o : Option ℕ} {x : ℕ} → o ≡ None → o ≡ Some x → ⊥
      clash e f = cc

module _ {J F A V R : Type 0} (rules : Rules J F A V R) where
  next_each : (f : ℕ → Slot J A V R → Slot J A V R) (slots : List (Slot J A V R)) (at : ℕ)
      → next_at (map_places f 0 slots) at ≡ next_in (option_map (f at) (slice_get slots at))
  next_each f slots at =
      ap next_in (get-each f 0 slots at ∙ ap (λ k. option_map (f k) (slice_get slots at)) (omega arith))

  -- a change that adds no link and closes nothing on which a job waits
  pub linked_each : (f : ℕ → Slot J A V R → Slot J A V R) (slots : List (Slot J A V R))
      → ((at : ℕ) (slot : Slot J A V R) → (f at slot).job ≡ slot.job)
      → ((at : ℕ) (slot : Slot J A V R) → slice_get slots at ≡ Some slot
      → (next_of (f at slot).state ≡ next_of slot.state) ⊎ (next_of (f at slot).state ≡ None))
      → ((at other : ℕ) (slot one : Slot J A V R) → slice_get slots at ≡ Some slot
      → next_of (f at slot).state ≡ Some other → slice_get slots other ≡ Some one
      → IsOpen one.state → IsOpen (f other one).state)
      → IsLinked rules slots → IsLinked rules (map_places f 0 slots)
  linked_each f slots jobs nexts opens kept = record {
    own = λ place slot h. let r = map_places-stood f slots place slot h in
        ap rules.own (ap (λ s. s.job) r.2 ∙ jobs place r.0) ∙ kept.own place r.0 r.1;
    apart = λ i k one other h g same.
        let r = map_places-stood f slots i one h in
        let s = map_places-stood f slots k other g in
        kept.apart i k r.0 s.0 r.1 s.1
        (sym (ap (λ x. rules.text x.job) r.2 ∙ ap rules.text (jobs i r.0)) ∙ same
        ∙ (ap (λ x. rules.text x.job) s.2 ∙ ap rules.text (jobs k s.0)));
    linked = λ at other e. link at other (slice_get slots at) refl (sym (next_each f slots at) ∙ e);
    rests = λ at. rests_less (λ place. less place (slice_get slots place) refl) (kept.rests at);
  }
    where
      less : (at : ℕ) (o : Option (Slot J A V R)) → slice_get slots at ≡ o
          → (next_at (map_places f 0 slots) at ≡ next_at slots at)
          ⊎ (next_at (map_places f 0 slots) at ≡ None)
      less at None e = inr (next_each f slots at ∙ ap (λ o. next_in (option_map (f at) o)) e)
      less at (Some slot) e = go (nexts at slot e)
        where
          new : next_at (map_places f 0 slots) at ≡ next_of (f at slot).state
          new = next_each f slots at ∙ ap (λ o. next_in (option_map (f at) o)) e

          go : (next_of (f at slot).state ≡ next_of slot.state) ⊎ (next_of (f at slot).state ≡ None)
              → (next_at (map_places f 0 slots) at ≡ next_at slots at)
              ⊎ (next_at (map_places f 0 slots) at ≡ None)
          go (inl same) = inl (new ∙ same ∙ sym (ap next_in e))
          go (inr none) = inr (new ∙ none)

      link : (at other : ℕ) (o : Option (Slot J A V R)) → slice_get slots at ≡ o
          → next_in (option_map (f at) (slice_get slots at)) ≡ Some other
          → OpenAt (map_places f 0 slots) other
      link at other None e n = let gone = ap (λ o. next_in (option_map (f at) o)) e in absurd (cc)
      link at other (Some slot) e n = go (nexts at slot e)
        where
          new : next_of (f at slot).state ≡ Some other
          new = sym (ap (λ o. next_in (option_map (f at) o)) e) ∙ n

          go : (next_of (f at slot).state ≡ next_of slot.state) ⊎ (next_of (f at slot).state ≡ None)
              → OpenAt (map_places f 0 slots) other
          go (inl same) =
              let open_one = kept.linked at other (ap next_in e ∙ sym same ∙ new) in
              record {
                slot = f other open_one.slot;
                stands =
                    map_places-stands f slots other open_one.slot open_one.stands;
                waits =
                    opens at other slot open_one.slot e new open_one.stands open_one.waits;
              }
          go (inr none) = let is = new in absurd (cc)

  kept_job : (b : Bool) (slot : Slot J A V R) (state : State A V R)
      → (if b then record { job = slot.job; state = state } else slot).job ≡ slot.job
  kept_job true slot state = refl
  kept_job false slot state = refl

  -- one slot in an open state in which it waits for no job
  pub set_state_linked : (place : ℕ) (state : State A V R) (slots : List (Slot J A V R))
      → next_of state ≡ None → IsOpen state → IsLinked rules slots
      → IsLinked rules (set_state place state slots)
  set_state_linked place state slots none open_state kept =
      linked_each (λ at slot. if at == place then record { job = slot.job; state = state } else slot) slots
      (λ at slot. kept_job (at == place) slot state) (λ at slot e. nexts slot (at == place))
      (λ at other slot one e n g w. opens one (other == place) w) kept
    where
      nexts : (slot : Slot J A V R) (b : Bool)
          → (next_of (if b then record { job = slot.job; state = state } else slot).state ≡ next_of
          slot.state) ⊎ (next_of (if b then record { job = slot.job; state = state } else slot).state ≡ None)
      nexts slot true = inr none
      nexts slot false = inl refl

      opens : (one : Slot J A V R) (b : Bool) → IsOpen one.state
          → IsOpen (if b then record { job = one.job; state = state } else one).state
      opens one true w = open_state
      opens one false w = w

  pub next_within : (slots : List (Slot J A V R)) (x y : ℕ) → next_at slots x ≡ Some y
      → x < length slots
  next_within slots x y e = go (slice_get slots x) refl e
    where
      go : (o : Option (Slot J A V R)) → slice_get slots x ≡ o → next_in o ≡ Some y
          → x < length slots
      go None h n = absurd (cc)
      go (Some slot) h n = slice_get_within slots x slot h

  -- the refused and all that wait for them
  pub spread_refusal_linked : (place : ℕ) (r : R) (slots : List (Slot J A V R))
      → IsLinked rules slots → IsLinked rules (spread_refusal place r slots)
  spread_refusal_linked place r slots kept =
      linked_each (λ at slot. if is_some (way_to slots place at) then record { job = slot.job; state = RefusedWith r } else slot) slots
      (λ at slot. kept_job (is_some (way_to slots place at)) slot (RefusedWith r))
      (λ at slot e. nexts slot (is_some (way_to slots place at)))
      (λ at other slot one e n g w. opens at other slot one e (way_to slots place at)
      (way_to slots place other) refl refl n w) kept
    where
      nexts : (slot : Slot J A V R) (b : Bool)
          → (next_of (if b then record { job = slot.job; state = RefusedWith r } else slot).state ≡
          next_of slot.state)
          ⊎ (next_of (if b then record { job = slot.job; state = RefusedWith r } else slot).state ≡ None)
      nexts slot true = inr refl
      nexts slot false = inl refl

      opens : (at other : ℕ) (slot one : Slot J A V R) → slice_get slots at ≡ Some slot
          → (o p : Option (List ℕ)) → way_to slots place at ≡ o → way_to slots place other ≡ p
          → next_of (if is_some o then record { job = slot.job; state = RefusedWith r } else slot).state ≡ Some other → IsOpen one.state
          → IsOpen (if is_some p then record { job = one.job; state = RefusedWith r } else one).state
      opens at other slot one e (Some places) p h g n w = absurd (cc)
      opens at other slot one e None None h g n w = w
      opens at other slot one e None (Some places) h g n w =
          let way = walk_way (next_at slots) place (length slots) other places g in
          let link : next_at slots at ≡ Some other = ap next_in e ∙ n in
          absurd (go link way (cases_eq at place))
        where
          go : next_at slots at ≡ Some other → Way (next_at slots) place other places
              → (at ≡ place) ⊎ (at ≡ place → ⊥) → ⊥
          go link way (inl is) =
              walk_none (next_at slots) place (length slots) (next_within slots) h (Way.here is)
          go link way (inr off) =
              walk_none (next_at slots) place (length slots) (next_within slots) h
              (Way.on off link way)

  -- the with_value of a job, and those that wait for it
  woken_next : (place : ℕ) (v : V) (state : State A V R)
      → (next_of (woken_state place v state) ≡ next_of state)
      ⊎ (next_of (woken_state place v state) ≡ None)
  woken_next place v (OnJob answers need other) = go (other == place)
    where
      go : (b : Bool)
          → (next_of {R = R} (if b then Queued (Value v ∷ answers) else OnJob answers need other) ≡
          Some other) ⊎ (next_of {R = R} (if b then Queued (Value v ∷ answers) else OnJob answers need other) ≡ None)
      go true = inr refl
      go false = inl refl
  woken_next place v (Queued answers) = inl refl
  woken_next place v (Claimed worker count) = inl refl
  woken_next place v (OnFile answers need) = inl refl
  woken_next place v (Valued w) = inl refl
  woken_next place v (RefusedWith r) = inl refl

  woken_off : (place : ℕ) (v : V) (state : State A V R) (other : ℕ)
      → next_of (woken_state place v state) ≡ Some other → other ≢ place
  woken_off place v (OnJob answers need at) other e is = go (at == place) refl e
    where
      go : (b : Bool) → (at == place) ≡ b
          → next_of {R = R} (if b then Queued (Value v ∷ answers) else OnJob answers need at) ≡ Some
          other → ⊥
      go true same n = absurd (cc)
      go false away n = let one : at ≡ other = cc in
          absurd (grind (arith, nat_tests, is, one, away))
  woken_off place v (Queued answers) other e is = absurd (cc)
  woken_off place v (Claimed worker count) other e is = absurd (cc)
  woken_off place v (OnFile answers need) other e is = absurd (cc)
  woken_off place v (Valued w) other e is = absurd (cc)
  woken_off place v (RefusedWith r) other e is = absurd (cc)

  woken_open : (place : ℕ) (v : V) (state : State A V R) → IsOpen state
      → IsOpen (woken_state place v state)
  woken_open place v (OnJob answers need other) w = go (other == place)
    where
      go : (b : Bool)
          → IsOpen {R = R} (if b then Queued (Value v ∷ answers) else OnJob answers need other)
      go true = tt
      go false = tt
  woken_open place v (Queued answers) w = w
  woken_open place v (Claimed worker count) w = w
  woken_open place v (OnFile answers need) w = w
  woken_open place v (Valued x) w = w
  woken_open place v (RefusedWith r) w = w

  pub value_linked : (place : ℕ) (v : V) (slots : List (Slot J A V R)) → IsLinked rules slots
      → IsLinked rules (with_value place v slots)
  value_linked place v slots kept =
      linked_each (λ at slot. record { job = slot.job; state = if at == place then Valued v else woken_state place v slot.state }) slots
      (λ at slot. refl) (λ at slot e. nexts slot.state (at == place))
      (λ at other slot one e n g w. opens slot.state one.state other (at == place)
      (other == place) refl n w) kept
    where
      nexts : (state : State A V R) (b : Bool)
          → (next_of (if b then Valued v else woken_state place v state) ≡ next_of state)
          ⊎ (next_of (if b then Valued v else woken_state place v state) ≡ None)
      nexts state true = inr refl
      nexts state false = woken_next place v state

      opens : (state one : State A V R) (other : ℕ) (b c : Bool) → (other == place) ≡ c
          → next_of (if b then Valued v else woken_state place v state) ≡ Some other → IsOpen one
          → IsOpen (if c then Valued v else woken_state place v one)
      opens state one other true c e n w = absurd (cc)
      opens state one other false true e n w =
          absurd (woken_off place v state other n (grind (arith, nat_tests)))
      opens state one other false false e n w = woken_open place v one w

  -- a file that is found
  shelved_next : (need : ℕ) (found : A) (state : State A V R)
      → next_of (shelved_state need found state) ≡ next_of state
  shelved_next need found (OnFile answers other) = go (other == need)
    where
      go : (b : Bool)
          → next_of {R = R} (if b then Queued (Found found ∷ answers) else OnFile answers other) ≡
          None
      go true = refl
      go false = refl
  shelved_next need found (Queued answers) = refl
  shelved_next need found (Claimed worker count) = refl
  shelved_next need found (OnJob answers other place) = refl
  shelved_next need found (Valued w) = refl
  shelved_next need found (RefusedWith r) = refl

  shelved_open : (need : ℕ) (found : A) (state : State A V R) → IsOpen state
      → IsOpen (shelved_state need found state)
  shelved_open need found (OnFile answers other) w = go (other == need)
    where
      go : (b : Bool)
          → IsOpen {R = R} (if b then Queued (Found found ∷ answers) else OnFile answers other)
      go true = tt
      go false = tt
  shelved_open need found (Queued answers) w = w
  shelved_open need found (Claimed worker count) w = w
  shelved_open need found (OnJob answers other place) w = w
  shelved_open need found (Valued x) w = w
  shelved_open need found (RefusedWith r) w = w

  pub hand_file_linked : (need : ℕ) (found : A) (slots : List (Slot J A V R)) → IsLinked rules slots
      → IsLinked rules (hand_file need found slots)
  hand_file_linked need found slots kept =
      linked_each (λ at slot. record { job = slot.job; state = shelved_state need found slot.state }) slots
      (λ at slot. refl) (λ at slot e. inl (shelved_next need found slot.state))
      (λ at other slot one e n g w. shelved_open need found one.state w) kept

  -- a further job
  next_pushed : (slots : List (Slot J A V R)) (job : J) (at : ℕ)
      → next_at (slots ++ record { job = job; state = Queued [] } ∷ []) at ≡ next_at slots at
  next_pushed [] job zero = refl
  next_pushed [] job (suc at) = refl
  next_pushed (slot ∷ slots) job zero = refl
  next_pushed (slot ∷ slots) job (suc at) = next_pushed slots job at

  added : (job : J) (slots : List (Slot J A V R)) → rules.own job ≡ true
      → ((at : ℕ) (slot : Slot J A V R) → slice_get slots at ≡ Some slot
      → same_job rules job slot.job ≡ false)
      → IsLinked rules slots
      → IsLinked rules (slots ++ record { job = job; state = Queued [] } ∷ [])
  added job slots own new kept = record {
    own = λ place slot h. owned place slot (pushed-stood slots (record { job = job; state = Queued [] }) place slot h);
    apart = λ i k one other h g same. separate i k one other (pushed-stood slots (record { job = job; state = Queued [] }) i one h) (pushed-stood slots (record { job = job; state = Queued [] }) k other g) same;
    linked = λ at other e.
        let r = kept.linked at other (sym (next_pushed slots job at) ∙ e) in
        record {
          slot = r.slot;
          stands =
              pushed-stands slots (record { job = job; state = Queued [] }) other r.slot r.stands;
          waits = r.waits;
        };
    rests = λ at. rests_less (λ place. inl (next_pushed slots job place)) (kept.rests at);
  }
    where
      owned : (place : ℕ) (slot : Slot J A V R)
          → (slice_get slots place ≡ Some slot)
          ⊎ ((place ≡ length slots) × (slot ≡ record { job = job; state = Queued [] }))
          → rules.own slot.job ≡ true
      owned place slot (inl h) = kept.own place slot h
      owned place slot (inr r) = ap (λ s. rules.own s.job) r.1 ∙ own

      clash : (at : ℕ) (slot : Slot J A V R) → slice_get slots at ≡ Some slot
          → rules.text job ≡ rules.text slot.job → ⊥
      clash at slot h same =
          let off = new at slot h in
          let on = text_itself (rules.text job) in
          let also : same_job rules job slot.job ≡ true =
          subst (λ t. bytes_eq (rules.text job) t ≡ true) same on in absurd (cc)

      separate : (i k : ℕ) (one other : Slot J A V R)
          → (slice_get slots i ≡ Some one)
          ⊎ ((i ≡ length slots) × (one ≡ record { job = job; state = Queued [] }))
          → (slice_get slots k ≡ Some other)
          ⊎ ((k ≡ length slots) × (other ≡ record { job = job; state = Queued [] }))
          → rules.text one.job ≡ rules.text other.job → i ≡ k
      separate i k one other (inl h) (inl g) same = kept.apart i k one other h g same
      separate i k one other (inl h) (inr g) same =
          absurd (clash i one h (sym (same ∙ ap (λ s. rules.text s.job) g.1)))
      separate i k one other (inr h) (inl g) same =
          absurd (clash k other g (sym (ap (λ s. rules.text s.job) h.1) ∙ same))
      separate i k one other (inr h) (inr g) same = h.0 ∙ sym g.0

  pub added_linked : (job : J) (slots : List (Slot J A V R)) → rules.own job ≡ true
      → IsLinked rules slots → IsLinked rules (with_job rules job slots)
  added_linked job slots own kept =
      go (nat_lt (place_of rules job slots) (length slots)) refl
      (position_found (λ slot. same_job rules job slot.job) slots)
    where
      go : (b : Bool) → nat_lt (place_of rules job slots) (length slots) ≡ b
          → ((x : Slot J A V R) × (slice_get slots (place_of rules job slots) ≡ Some x)
          × (same_job rules job x.job ≡ true))
          ⊎ ((place_of rules job slots ≡ length slots)
          × ((at : ℕ) (y : Slot J A V R) → slice_get slots at ≡ Some y
          → same_job rules job y.job ≡ false))
          → IsLinked rules
          (if b then slots else slots ++ record { job = job; state = Queued [] } ∷ [])
      go true e r = kept
      go false e (inl r) = let less = slice_get_within slots (place_of rules job slots) r.0 r.1 in
          absurd (grind (arith, nat_tests))
      go false e (inr r) = added job slots own r.1 kept

  -- a job that parks on an open job whose chain doesn't lead to it
  pub join_linked : (place other need : ℕ) (answers : List (Answer A V))
      (slots : List (Slot J A V R)) (old : Slot J A V R) → slice_get slots place ≡ Some old
      → next_of old.state ≡ None
      → OpenAt slots other → way_to slots place other ≡ None → IsLinked rules slots
      → IsLinked rules (set_state place (OnJob answers need other) slots)
  join_linked place other need answers slots old h none open_one away kept = record {
    own = λ at slot e. let r = map_places-stood f slots at slot e in
        ap rules.own (ap (λ s. s.job) r.2 ∙ jobs at r.0) ∙ kept.own at r.0 r.1;
    apart = λ i k one two e g same.
        let r = map_places-stood f slots i one e in
        let s = map_places-stood f slots k two g in
        kept.apart i k r.0 s.0 r.1 s.1
        (sym (ap (λ x. rules.text x.job) r.2 ∙ ap rules.text (jobs i r.0)) ∙ same
        ∙ (ap (λ x. rules.text x.job) s.2 ∙ ap rules.text (jobs k s.0)));
    linked = λ at to e. link at to (cases_eq at place) e;
    rests = λ at. rests_more (next_at slots) (next_at (map_places f 0 slots)) place other (ap next_in h ∙ none) links same_at (kept.rests other)
        (λ places way. walk_none (next_at slots) place (length slots) (next_within slots) away way)
        (kept.rests at);
  }
    where
      f : ℕ → Slot J A V R → Slot J A V R
      f at slot = if at == place then record { job = slot.job; state = OnJob answers need other } else slot

      jobs : (at : ℕ) (slot : Slot J A V R) → (f at slot).job ≡ slot.job
      jobs at slot = kept_job (at == place) slot (OnJob answers need other)

      opened : (at : ℕ) → OpenAt slots at → OpenAt (map_places f 0 slots) at
      opened at one =
          record {
            slot = f at one.slot;
            stands = map_places-stands f slots at one.slot one.stands;
            waits = go (at == place);
          }
        where
          go : (b : Bool)
              → IsOpen (if b then record { job = one.slot.job; state = OnJob answers need other } else one.slot).state
          go true = tt
          go false = one.waits

      links : next_at (map_places f 0 slots) place ≡ Some other
      links = next_each f slots place ∙ ap (λ o. next_in (option_map (f place) o)) h ∙ ap (λ b. next_of (if b then record { job = old.job; state = OnJob answers need other } else old).state) (itself place)

      same_at : (at : ℕ) → at ≢ place → next_at (map_places f 0 slots) at ≡ next_at slots at
      same_at at off = go (slice_get slots at) refl
        where
          go : (o : Option (Slot J A V R)) → slice_get slots at ≡ o
              → next_at (map_places f 0 slots) at ≡ next_at slots at
          go None e = next_each f slots at ∙ ap (λ o. next_in (option_map (f at) o)) e ∙ sym (ap next_in e)
          go (Some slot) e = next_each f slots at ∙ ap (λ o. next_in (option_map (f at) o)) e
              ∙ ap (λ b. next_of (if b then record { job = slot.job; state = OnJob answers need other } else slot).state) (others at place off) ∙ sym (ap next_in e)

      link : (at to : ℕ) → (at ≡ place) ⊎ (at ≡ place → ⊥)
          → next_at (map_places f 0 slots) at ≡ Some to → OpenAt (map_places f 0 slots) to
      link at to (inl is) e =
          let same : other ≡ to =
          some_same (sym links ∙ ap (next_at (map_places f 0 slots)) (sym is) ∙ e) in
          subst (OpenAt (map_places f 0 slots)) same (opened other open_one)
      link at to (inr off) e = opened to (kept.linked at to (sym (same_at at off) ∙ e))
