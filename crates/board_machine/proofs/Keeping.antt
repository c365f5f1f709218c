-- Each event keeps what is known of a board.
use Rattle.std.proofs.Common.{◌≡◌, ℕ, ◌==◌, Bool, true, false, List, [], ◌∷◌, ◌++◌, length, refl}
use Rattle.std.proofs.Common.{ap, sym, ◌∙◌, subst, arith, if◌then◌else◌, Option, None, Some}
use Rattle.std.proofs.Common.{slice_get, ◌⊎◌, inl, inr}
use Rattle.std.specs.Prelude.{nat_lt}
use Rattle.std.specs.List.{position_or_len}
use Rattle.std.proofs.lemmas.Option.{slice_get_within}
use Rattle.std.proofs.lemmas.Bool.Decides.{nat_tests}
use Rattle.board_laws.specs.Works.{Answer, Rules, Lawful, Reads, Asks, Found, Value}
use Rattle.board_laws.specs.Recursive.{cycle_of, same_job}
use Rattle.board_laws.specs.Results.{IsGiven, ComesTo, IsRefusedWith}
use Rattle.board_laws.proofs.Turning.{text_same}
use Rattle.board_machine.specs.Boards.{State, Queued, Claimed, OnFile, OnJob, Valued, RefusedWith}
use Rattle.board_machine.specs.Boards.{Slot, Needed, File, Job, Board, next_of, next_at, way_to}
use Rattle.board_machine.specs.Boards.{jobs_at}
use Rattle.board_machine.specs.Kept.{IsSoundState, IsOpen, IsLinked}
use Rattle.board_machine.specs.Moves.{set_state, spread_refusal, with_job, place_of, job_put}
use Rattle.board_machine.specs.Moves.{file_put, park_job, park_file, shelve, shelve_need, filled}
use Rattle.board_machine.specs.Moves.{first_queued, count_in, state_in, with_need, is_file, is_job}
use Rattle.board_machine.specs.Events.{Event, Step, claims, reads, asks, values, refuses, shelves}
use Rattle.board_machine.specs.Events.{halts, Run, nothing, more, Kept}
use Rattle.board_machine.proofs.Chases.{walk_way}
use Rattle.board_machine.proofs.Slots.{map_places-stood, pushed-stood, pushed-stands, pushed-last}
use Rattle.board_machine.proofs.Slots.{position_found}
use Rattle.board_machine.proofs.Sounds.{AllSo, Separate, way_cycle}
use Rattle.board_machine.proofs.Steps.{set_state_so, spread_refusal_so, value_so, hand_file_so}
use Rattle.board_machine.proofs.Steps.{wanted_so, added_so}
use Rattle.board_machine.proofs.Links.{set_state_linked, spread_refusal_linked, value_linked}
use Rattle.board_machine.proofs.Links.{hand_file_linked, added_linked, join_linked}

module _ {J A V R : Type 0} (rules : Rules J (List ℕ) A V R) where
  record Both (slots : List (Slot J A V R)) (needs : List (Needed A)) : Type 0 where
    so : AllSo rules slots needs
    linked : IsLinked rules slots

  cycle_both : (place other : ℕ) (answers : List (Answer A V)) (slots : List (Slot J A V R))
      (needs : List (Needed A)) (old one : Slot J A V R) → Both slots needs
      → slice_get slots place ≡ Some old → IsGiven rules old.job answers
      → slice_get slots other ≡ Some one → rules.run old.job answers ≡ Asks one.job
      → (places : List ℕ) → way_to slots place other ≡ Some places
      → Both (spread_refusal place (cycle_of rules (old.job ∷ jobs_at slots places)) slots)
      needs
  unfolding Separate
  cycle_both place other answers slots needs old one both h is_given g e places way =
      let falls = way_cycle rules slots needs both.so both.linked.apart place old h (walk_way (next_at slots) place (length slots) other places way) one g
      (record { answers = answers; is_given = is_given; asks = e }) in
      record {
        so = spread_refusal_so rules place (cycle_of rules (old.job ∷ jobs_at slots places)) slots needs old both.so h falls;
        linked = spread_refusal_linked rules place (cycle_of rules (old.job ∷ jobs_at slots places)) slots both.linked;
      }

  wait_both : (place other need : ℕ) (answers : List (Answer A V)) (slots : List (Slot J A V R))
      (needs : List (Needed A)) (old one : Slot J A V R) → Both slots needs
      → slice_get slots place ≡ Some old → next_of old.state ≡ None → IsGiven rules old.job answers
      → slice_get slots other ≡ Some one → rules.run old.job answers ≡ Asks one.job
      → IsOpen one.state → way_to slots place other ≡ None
      → Both (set_state place (OnJob answers need other) slots) needs
  wait_both place other need answers slots needs old one both h none is_given g e waits away =
      record {
        so = set_state_so rules place (OnJob answers need other) slots needs old both.so h (record { other = one; stands = g; is_given = is_given; asks = e });
        linked = join_linked rules place other need answers slots old h none (record { slot = one; stands = g; waits = waits }) away both.linked;
      }

  -- a claimed job that asks the job at a place
  job_put_both : (place other need : ℕ) (answers : List (Answer A V)) (slots : List (Slot J A V R))
      (needs : List (Needed A)) (old one : Slot J A V R) → Both slots needs
      → slice_get slots place ≡ Some old → next_of old.state ≡ None → IsGiven rules old.job answers
      → slice_get slots other ≡ Some one → rules.run old.job answers ≡ Asks one.job
      → (state : State A V R) → one.state ≡ state → (way : Option (List ℕ))
      → way_to slots place other ≡ way
      → Both (job_put rules place old.job answers need other way state slots) needs
  unfolding AllSo Separate
  job_put_both place other need answers slots needs old one both h none is_given g e (Valued v) is
      way e' =
      let with_value : ComesTo rules one.job [] v =
      subst (λ s. IsSoundState rules slots needs one.job s) is (both.so other one g) in
      record {
        so =
            set_state_so rules place (Queued (Value v ∷ answers)) slots needs old both.so h
            (IsGiven.value is_given e with_value);
        linked =
            set_state_linked rules place (Queued (Value v ∷ answers)) slots refl tt both.linked;
      }
  job_put_both place other need answers slots needs old one both h none is_given g e (RefusedWith r)
      is way e' =
      let falls : IsRefusedWith rules one.job r =
      subst (λ s. IsSoundState rules slots needs one.job s) is (both.so other one g) in
      record {
        so =
            spread_refusal_so rules place r slots needs old both.so h
            (IsRefusedWith.asked (record { answers = answers; is_given = is_given; asks = e }) falls);
        linked = spread_refusal_linked rules place r slots both.linked;
      }
  job_put_both place other need answers slots needs old one both h none is_given g e (Queued given)
      is (Some places) e' =
      cycle_both place other answers slots needs old one both h is_given g e places e'
  job_put_both place other need answers slots needs old one both h none is_given g e (Queued given)
      is None e' =
      wait_both place other need answers slots needs old one both h none is_given g e
      (subst IsOpen (sym is) tt) e'
  job_put_both place other need answers slots needs old one both h none is_given g e (Claimed w n)
      is (Some places) e' =
      cycle_both place other answers slots needs old one both h is_given g e places e'
  job_put_both place other need answers slots needs old one both h none is_given g e (Claimed w n)
      is None e' =
      wait_both place other need answers slots needs old one both h none is_given g e
      (subst IsOpen (sym is) tt) e'
  job_put_both place other need answers slots needs old one both h none is_given g e
      (OnFile given n) is (Some places) e' =
      cycle_both place other answers slots needs old one both h is_given g e places e'
  job_put_both place other need answers slots needs old one both h none is_given g e
      (OnFile given n) is None e' =
      wait_both place other need answers slots needs old one both h none is_given g e
      (subst IsOpen (sym is) tt) e'
  job_put_both place other need answers slots needs old one both h none is_given g e
      (OnJob given n p) is (Some places) e' =
      cycle_both place other answers slots needs old one both h is_given g e places e'
  job_put_both place other need answers slots needs old one both h none is_given g e
      (OnJob given n p) is None e' =
      wait_both place other need answers slots needs old one both h none is_given g e
      (subst IsOpen (sym is) tt) e'

  both_of : {board : Board J A V R} → Kept rules board → Both board.slots board.needs
  unfolding AllSo
  both_of kept = record { so = kept.sound.stand; linked = kept.linked }

  kept_of : {board : Board J A V R} → Both board.slots board.needs
      → ((need : ℕ) (path : List ℕ) (found : A)
      → slice_get board.needs need ≡ Some (File path (Some found)) → found ≡ rules.file path)
      → Kept rules board
  unfolding AllSo
  kept_of both shelf =
      record { sound = record { stand = both.so; shelf = shelf }; linked = both.linked }

  -- a with_value that comes after fair answers is the job's
  pub given_back : {j : J} {answers : List (Answer A V)} {v : V} → IsGiven rules j answers
      → ComesTo rules j answers v → ComesTo rules j [] v
  given_back IsGiven.none d = d
  given_back (IsGiven.file h e) d = given_back h (ComesTo.reads e d)
  given_back (IsGiven.value h e c) d = given_back h (ComesTo.given e c d)

  claimed_none : {state : State A V R} {worker count : ℕ} → state ≡ Claimed worker count
      → next_of state ≡ None
  claimed_none e = ap next_of e

  -- where the asked job stands
  pub asked_stands : (law : Lawful rules) (asked : J) (slots : List (Slot J A V R))
      → rules.own asked ≡ true → IsLinked rules slots
      → (one : Slot J A V R)
      × (slice_get (with_job rules asked slots) (place_of rules asked slots) ≡ Some one)
      × (one.job ≡ asked)
  asked_stands law asked slots own linked =
      go (nat_lt (place_of rules asked slots) (length slots)) refl
      (position_found (λ slot. same_job rules asked slot.job) slots)
    where
      go : (b : Bool) → nat_lt (place_of rules asked slots) (length slots) ≡ b
          → ((x : Slot J A V R) × (slice_get slots (place_of rules asked slots) ≡ Some x)
          × (same_job rules asked x.job ≡ true))
          ⊎ ((place_of rules asked slots ≡ length slots)
          × ((at : ℕ) (y : Slot J A V R) → slice_get slots at ≡ Some y
          → same_job rules asked y.job ≡ false))
          → (one : Slot J A V R)
          × (slice_get
          (if b then slots else slots ++ record { job = asked; state = Queued [] } ∷ [])
          (place_of rules asked slots) ≡ Some one) × (one.job ≡ asked)
      go true e (inl r) =
          (r.0, r.1, law.same r.0.job asked (linked.own (place_of rules asked slots) r.0 r.1) own (sym (text_same (rules.text asked) (rules.text r.0.job) r.2)))
      go true e (inr r) = let same = r.0 in absurd (grind (arith, nat_tests))
      go false e (inl r) = let less = slice_get_within slots (place_of rules asked slots) r.0 r.1 in
          absurd (grind (arith, nat_tests))
      go false e (inr r) = (
        record { job = asked; state = Queued [] },
        ap (slice_get (slots ++ record { job = asked; state = Queued [] } ∷ [])) r.0
            ∙ pushed-last slots (record { job = asked; state = Queued [] }),
        refl,
      )

  pub still_stands : (asked : J) (slots : List (Slot J A V R)) (place : ℕ) (slot : Slot J A V R)
      → slice_get slots place ≡ Some slot → slice_get (with_job rules asked slots) place ≡ Some slot
  still_stands asked slots place slot h = go (nat_lt (place_of rules asked slots) (length slots))
    where
      go : (b : Bool)
          → slice_get (if b then slots else slots ++ record { job = asked; state = Queued [] } ∷ [])
          place ≡ Some slot
      go true = h
      go false = pushed-stands slots (record { job = asked; state = Queued [] }) place slot h

  -- a further need is answered by nothing
  shelf_more : (test : Needed A → Bool) (need : Needed A) (needs : List (Needed A))
      → ((path : List ℕ) (found : A) → need ≡ File path (Some found) → ⊥)
      → ((at : ℕ) (path : List ℕ) (found : A) → slice_get needs at ≡ Some (File path (Some found))
      → found ≡ rules.file path)
      → (at : ℕ) (path : List ℕ) (found : A)
      → slice_get (with_need test need needs) at ≡ Some (File path (Some found))
      → found ≡ rules.file path
  shelf_more test need needs open_need shelf =
      go (nat_lt (position_or_len test needs) (length needs))
    where
      go : (b : Bool) → (at : ℕ) (path : List ℕ) (found : A)
          → slice_get (if b then needs else needs ++ need ∷ []) at ≡ Some (File path (Some found))
          → found ≡ rules.file path
      go true at path found h = shelf at path found h
      go false at path found h = pushed (pushed-stood needs need at (File path (Some found)) h)
        where
          pushed : (slice_get needs at ≡ Some (File path (Some found)))
              ⊎ ((at ≡ length needs) × (File path (Some found) ≡ need)) → found ≡ rules.file path
          pushed (inl e) = shelf at path found e
          pushed (inr r) = absurd (open_need path found (sym r.1))

  asks_kept : (law : Lawful rules) (board : Board J A V R) (worker place : ℕ) (asked : J)
      (answers : List (Answer A V)) (old : Slot J A V R) → Kept rules board
      → slice_get board.slots place ≡ Some old → old.state ≡ Claimed worker (length answers)
      → IsGiven rules old.job answers → rules.run old.job answers ≡ Asks asked
      → Kept rules (park_job rules place old.job answers asked board)
  asks_kept law board worker place asked answers old kept h claimed is_given e =
      let own = law.owns old.job asked answers (kept.linked.own place old h) e in
      let one = asked_stands law asked board.slots own kept.linked in
      let other = place_of rules asked board.slots in
      let slots = with_job rules asked board.slots in
      let needs = with_need (is_job other) (Job other) board.needs in
      let before = both_of kept in
      let start : Both slots needs = record {
        so = wanted_so rules (is_job other) (Job other) slots board.needs (added_so rules asked board.slots board.needs before.so);
        linked = added_linked rules asked board.slots own kept.linked;
      } in
      let state_is : state_in (slice_get slots other) ≡ one.0.state = ap state_in one.1 in
      kept_of (subst (λ state. Both (job_put rules place old.job answers (position_or_len (is_job other) board.needs) other (way_to slots place other) state slots) needs) (sym state_is)
      (job_put_both place other (position_or_len (is_job other) board.needs) answers slots needs old
      one.0 start (still_stands asked board.slots place old h)
      (claimed_none claimed) is_given one.1 (e ∙ ap (λ j. Asks j) (sym one.2)) one.0.state refl
      (way_to slots place other) refl))
      (shelf_more (is_job other) (Job other) board.needs (λ path found bad. cc) kept.sound.shelf)

  -- where the wanted file stands
  file_wanted : (path : List ℕ) (needs : List (Needed A))
      → slice_get needs (position_or_len (is_file path) needs) ≡ None
      → slice_get (with_need (is_file path) (File path None) needs)
      (position_or_len (is_file path) needs) ≡ Some (File path None)
  file_wanted path needs none =
      go (nat_lt (position_or_len (is_file path) needs) (length needs)) refl
      (position_found (is_file path) needs)
    where
      go : (b : Bool) → nat_lt (position_or_len (is_file path) needs) (length needs) ≡ b
          → ((x : Needed A) × (slice_get needs (position_or_len (is_file path) needs) ≡ Some x)
          × (is_file path x ≡ true))
          ⊎ ((position_or_len (is_file path) needs ≡ length needs)
          × ((at : ℕ) (y : Needed A) → slice_get needs at ≡ Some y → is_file path y ≡ false))
          → slice_get (if b then needs else needs ++ File path None ∷ [])
          (position_or_len (is_file path) needs) ≡ Some (File path None)
      go b e (inl r) = let some = r.1 in absurd (clash none some)
        where
          clash : {X : Type 0} {o : Option X} {x : X} → o ≡ None → o ≡ Some x → ⊥
          clash e f = cc
      go true e (inr r) = let same = r.0 in absurd (grind (arith, nat_tests))
      go false e (inr r) =
          ap (slice_get (needs ++ File path None ∷ [])) r.0 ∙ pushed-last needs (File path None)

  -- the need that stands there is of this file
  file_same : (path : List ℕ) (needs : List (Needed A)) (need : Needed A)
      → slice_get needs (position_or_len (is_file path) needs) ≡ Some need
      → is_file path need ≡ true
  file_same path needs need h = go (position_found (is_file path) needs)
    where
      go : ((x : Needed A) × (slice_get needs (position_or_len (is_file path) needs) ≡ Some x) × (is_file path x ≡ true))
          ⊎ ((position_or_len (is_file path) needs ≡ length needs)
          × ((at : ℕ) (y : Needed A) → slice_get needs at ≡ Some y → is_file path y ≡ false))
          → is_file path need ≡ true
      go (inl r) = let f = r.1 in let same : r.0 ≡ need = cc in
          subst (λ n. is_file path n ≡ true) same r.2
      go (inr r) = let less =
          slice_get_within needs (position_or_len (is_file path) needs) need h in let same = r.0 in
          absurd (omega arith)

  file_put_both : (place : ℕ) (answers : List (Answer A V)) (path : List ℕ)
      (slots : List (Slot J A V R)) (needs : List (Needed A)) (old : Slot J A V R)
      → Both slots (with_need (is_file path) (File path None) needs)
      → ((need : ℕ) (path : List ℕ) (found : A)
      → slice_get needs need ≡ Some (File path (Some found)) → found ≡ rules.file path)
      → slice_get slots place ≡ Some old → IsGiven rules old.job answers
      → rules.run old.job answers ≡ Reads path
      → (o : Option (Needed A)) → slice_get needs (position_or_len (is_file path) needs) ≡ o
      → Both (file_put place answers (position_or_len (is_file path) needs) o slots)
      (with_need (is_file path) (File path None) needs)
  file_put_both place answers path slots needs old both shelf h is_given e
      (Some (File other (Some found))) is =
      let same : path ≡ other =
      text_same path other (file_same path needs (File other (Some found)) is) in
      let told : rules.file path ≡ found =
      ap rules.file same ∙ sym (shelf (position_or_len (is_file path) needs) other found is) in
      record {
        so = set_state_so rules place (Queued (Found found ∷ answers)) slots (with_need (is_file path) (File path None) needs) old both.so h (subst (λ a. IsGiven rules old.job (Found a ∷ answers)) told (IsGiven.file is_given e));
        linked = set_state_linked rules place (Queued (Found found ∷ answers)) slots refl tt both.linked;
      }
  file_put_both place answers path slots needs old both shelf h is_given e (Some (File other None))
      is =
      let same : other ≡ path =
      sym (text_same path other (file_same path needs (File other None) is)) in
      record {
        so = set_state_so rules place (OnFile answers (position_or_len (is_file path) needs)) slots (with_need (is_file path) (File path None) needs) old both.so h
            (record { path = path; stands = still_wanted (is ∙ ap (λ p. Some (File p None)) same); is_given = is_given; reads = e });
        linked = set_state_linked rules place (OnFile answers (position_or_len (is_file path) needs)) slots refl tt both.linked;
      }
    where
      still_wanted : slice_get needs (position_or_len (is_file path) needs) ≡ Some (File path None)
          → slice_get (with_need (is_file path) (File path None) needs)
          (position_or_len (is_file path) needs) ≡ Some (File path None)
      still_wanted g = go (nat_lt (position_or_len (is_file path) needs) (length needs))
        where
          go : (b : Bool)
              → slice_get (if b then needs else needs ++ File path None ∷ [])
              (position_or_len (is_file path) needs) ≡ Some (File path None)
          go true = g
          go false = pushed-stands needs (File path None) (position_or_len (is_file path) needs) (File path None) g
  file_put_both place answers path slots needs old both shelf h is_given e (Some (Job other)) is =
      let bad = file_same path needs (Job other) is in absurd (cc)
  file_put_both place answers path slots needs old both shelf h is_given e None is = record {
    so = set_state_so rules place (OnFile answers (position_or_len (is_file path) needs)) slots (with_need (is_file path) (File path None) needs) old both.so h
        (record { path = path; stands = file_wanted path needs is; is_given = is_given; reads = e });
    linked = set_state_linked rules place (OnFile answers (position_or_len (is_file path) needs)) slots refl tt both.linked;
  }

  reads_kept : (board : Board J A V R) (place : ℕ) (answers : List (Answer A V)) (path : List ℕ)
      (old : Slot J A V R) → Kept rules board
      → slice_get board.slots place ≡ Some old → IsGiven rules old.job answers
      → rules.run old.job answers ≡ Reads path → Kept rules (park_file place answers path board)
  reads_kept board place answers path old kept h is_given e =
      let before = both_of kept in
      kept_of (file_put_both place answers path board.slots board.needs old
      (record { so = wanted_so rules (is_file path) (File path None) board.slots board.needs before.so; linked = kept.linked }) kept.sound.shelf h is_given e
      (slice_get board.needs (position_or_len (is_file path) board.needs)) refl)
      (shelf_more (is_file path) (File path None) board.needs (λ path found bad. cc)
      kept.sound.shelf)

  shelved_kept : (board : Board J A V R) (need : ℕ) (path : List ℕ) → Kept rules board
      → slice_get board.needs need ≡ Some (File path None)
      → Kept rules (shelve need (rules.file path) board)
  shelved_kept board need path kept h =
      let before = both_of kept in
      kept_of (record { so = hand_file_so rules need path (rules.file path) board.slots board.needs before.so h refl; linked = hand_file_linked rules need (rules.file path) board.slots kept.linked }) shelf
    where
      shelf : (at : ℕ) (other : List ℕ) (found : A)
          → slice_get (shelve_need need (rules.file path) board.needs) at ≡ Some
          (File other (Some found)) → found ≡ rules.file other
      shelf at other found g =
          go (map_places-stood (λ at one. if at == need then filled (rules.file path) one else one)
          board.needs at (File other (Some found)) g)
        where
          go : (x : Needed A) × (slice_get board.needs at ≡ Some x)
              × (File other (Some found) ≡ (if at == need then filled (rules.file path) x else x))
              → found ≡ rules.file other
          go r = by_place (at == need) refl r.2
            where
              by_place : (b : Bool) → (at == need) ≡ b
                  → File other (Some found) ≡ (if b then filled (rules.file path) r.0 else r.0)
                  → found ≡ rules.file other
              by_place true e f =
                  let here : at ≡ need = grind (arith, nat_tests) in
                  let stood = r.1 in
                  let one : r.0 ≡ File path None = cc in
                  let whole : File other (Some found) ≡ File path (Some (rules.file path)) =
                  f ∙ ap (filled (rules.file path)) one in
                  let same : other ≡ path = cc in
                  let told : found ≡ rules.file path = cc in
                  told ∙ ap rules.file (sym same)
              by_place false e f = kept.sound.shelf at other found (r.1 ∙ ap (λ x. Some x) (sym f))

  -- each event
  pub step_kept : (law : Lawful rules) {board after : Board J A V R} {event : Event}
      → Kept rules board → Step rules board event after → Kept rules after
  step_kept law kept
      (claims {board = board} {worker = worker} {slot = slot} {answers = answers} over h queued) =
      let before = both_of kept in
      let is_given : IsGiven rules slot.job answers =
      subst (λ s. IsSoundState rules board.slots board.needs slot.job s) queued
      (kept.sound.stand (first_queued board.slots) slot h) in
      let count : count_in (state_in (slice_get board.slots (first_queued board.slots))) ≡ length
      answers = ap (λ o. count_in (state_in o)) h ∙ ap count_in queued in
      kept_of (record {
        so = set_state_so rules (first_queued board.slots) (Claimed worker (count_in (state_in (slice_get board.slots (first_queued board.slots))))) board.slots board.needs slot before.so h
            (record { answers = answers; is_given = is_given; many = sym count });
        linked = set_state_linked rules (first_queued board.slots) (Claimed worker (count_in (state_in (slice_get board.slots (first_queued board.slots))))) board.slots refl tt kept.linked;
      }) kept.sound.shelf
  step_kept law kept
      (reads {board = board} {place = place} {job = job} {answers = answers} {path = path} held e) =
      reads_kept board place answers path held.slot kept held.stands
      (subst (λ j. IsGiven rules j answers) (sym held.is_job) held.is_given)
      (ap (λ j. rules.run j answers) held.is_job ∙ e)
  step_kept law kept
      (asks {board = board} {worker = worker} {place = place} {job = job} {asked = asked}
      {answers = answers} held e) =
      subst (λ j. Kept rules (park_job rules place j answers asked board)) held.is_job
      (asks_kept law board worker place asked answers held.slot kept held.stands held.claimed
      (subst (λ j. IsGiven rules j answers) (sym held.is_job) held.is_given)
      (ap (λ j. rules.run j answers) held.is_job ∙ e))
  step_kept law kept
      (values {board = board} {place = place} {job = job} {answers = answers} {v = v} held e) =
      let before = both_of kept in
      let ends : ComesTo rules held.slot.job [] v =
      subst (λ j. ComesTo rules j [] v) (sym held.is_job)
      (given_back held.is_given (ComesTo.done e)) in
      kept_of (record { so = value_so rules place v board.slots board.needs held.slot before.so held.stands ends; linked = value_linked rules place v board.slots kept.linked }) kept.sound.shelf
  step_kept law kept
      (refuses {board = board} {place = place} {job = job} {answers = answers} {r = r} held e) =
      let before = both_of kept in
      let falls : IsRefusedWith rules held.slot.job r =
      subst (λ j. IsRefusedWith rules j r) (sym held.is_job) (IsRefusedWith.own held.is_given e)
      in
      kept_of (record { so = spread_refusal_so rules place r board.slots board.needs held.slot before.so held.stands falls; linked = spread_refusal_linked rules place r board.slots kept.linked }) kept.sound.shelf
  step_kept law kept (shelves {board = board} {need = need} {path = path} h) =
      shelved_kept board need path kept h
  step_kept law kept (halts e) = let before = both_of kept in
      kept_of (record { so = before.so; linked = kept.linked }) kept.sound.shelf

  -- every list of events
  pub run_kept : (law : Lawful rules) {board after : Board J A V R} {events : List Event}
      → Kept rules board → Run rules board events after → Kept rules after
  run_kept law kept nothing = kept
  run_kept law kept (more step rest) = run_kept law (step_kept law kept step) rest
