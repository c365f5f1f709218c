-- What the calls of a board keep.
use Rattle.std.proofs.Common.{◌≡◌, ℕ, suc, ◌+◌, ◌≤◌, ◌==◌, Bool, true, false, List, [], ◌∷◌}
use Rattle.std.proofs.Common.{◌++◌, length, refl, ap, sym, ◌∙◌, subst, arith, Option, Some, None}
use Rattle.std.proofs.Common.{slice_get, slice_set, zero, Result, Ok, Err}
use Rattle.std.specs.Prelude.{IfSome, ◌&&◌, min, is_err, if◌then◌else◌, MatchBool}
use Rattle.std.specs.Str.{bytes_eq}
use Rattle.std.proofs.lemmas.Bool.Decides.{nat_tests}
use Rattle.bz_base.specs.Counts.{last_count}
use Rattle.bz_base.specs.declared.refusals.Refusal.{Refusal}
use Rattle.bz_tree.specs.declared.tree.Found.{Found}
use Rattle.bz_tree.specs.declared.tree.Found
use Rattle.board_laws.specs.Results.{AllOwn, IsGiven}
use Rattle.board_slots.specs.Views.{bare_rules}
use Rattle.board_laws.specs.Works.{Answer, Lawful, Rules}
use Rattle.board_laws.proofs.Turning.{text_same}
use Rattle.board_machine.specs.Boards.{Board, Slot, State, Queued, Claimed, OnFile, OnJob, Valued}
use Rattle.board_machine.specs.Boards.{RefusedWith, Needed, File}
use Rattle.board_machine.specs.Boards
use Rattle.board_machine.specs.Events.{Event, Holds, Kept, Step, values, refuses, claims, shelves}
use Rattle.board_machine.specs.Events.{halts, with_jobs}
use Rattle.board_machine.specs.Events
use Rattle.board_machine.specs.Moves.{claim, count_in, first_queued, halt, is_queued, set_state}
use Rattle.board_machine.specs.Moves.{shelve, state_in}
use Rattle.board_machine.proofs.Slots.{put-set}
use Rattle.board_work.specs.declared.worker.Claim.{Claim}
use Rattle.board_work.specs.declared.worker.Claim.TheVariants.{Job, Nothing, Finished}
use Rattle.board_slots.specs.Needs.{is_open_at}
use Rattle.board_core.specs.Calls.{IsGivenRightly}
use Rattle.board_core.specs.Claims.{ClaimGives, claim_count}
use Rattle.board_core.specs.Replays.{IsClaimedAt, IsReplay}
use Rattle.board_core.specs.Replays
use Rattle.board_machine.proofs.Keeping.{step_kept}
use Rattle.board_machine.proofs.Links.{hand_file_linked, set_state_linked, spread_refusal_linked, value_linked}
use Rattle.board_machine.proofs.Whole.{begin_kept}
use Rattle.board_slots.specs.Claims.{is_claimed_by, is_held}
use Rattle.board_work.specs.Turns.{Meaning, rules_of}
use Rattle.board_core.specs.Accounts.{IsHalted, Table, ended, noted, opened, queued_count}
use Rattle.board_core.specs.Histories.{IsHistory, IsKept, IsLinkedFor, IsOutcomeOf, finish_with}
use Rattle.board_core.specs.Histories.{happens, opening}

-- what the machine keeps holds after any history
pub history_kept : {J A V R : Type 0} (rules : Rules J (List ℕ) A V R)
    (ticks : J → List (Answer A V) → ℕ) (goals : List J) (law : Lawful rules) {events : List Event}
    {board : Board J A V R} {spent : ℕ} → IsHistory rules ticks goals events board spent
    → Kept rules board
history_kept rules ticks goals law (opening own) = begin_kept rules goals own
history_kept rules ticks goals law (happens before step) =
    step_kept rules law (history_kept rules ticks goals law before) step

pub queued_few : {J V : Type 0} (slots : List (Slot J Found V Refusal))
    → queued_count slots ≤ length slots
queued_few [] = omega arith
queued_few (slot ∷ slots) = go (is_queued slot.state) (queued_few slots)
  where
    go : (b : Bool) → queued_count slots ≤ length slots
        → (if b then suc (queued_count slots) else queued_count slots) ≤ suc (length slots)
    go true h = omega arith
    go false h = omega arith

module _ {J V : Type 0} (meaning : Meaning J V) (files : Option (List ℕ → Found)) (goals : List J)
  where
    pub told_history : (file : List ℕ → Found) (table : Table J V) → files ≡ Some file
        → IsKept meaning files goals table
        → IsHistory (rules_of meaning file) meaning.ticks goals table.account.journal
        table.account.board table.account.spent
    told_history file table e kept =
        subst (λ o. IfSome o (λ file. IsHistory (rules_of meaning file) meaning.ticks goals
        table.account.journal table.account.board table.account.spent)) e kept.history

    -- memory ran out
    pub unchanged_kept : (old new : Table J V) → new.account ≡ old.account → old.room ≤ new.room
        → IsKept meaning files goals old → IsKept meaning files goals new
    unchanged_kept old new same more kept =
        record {
          linked = subst (λ a. IsLinkedFor meaning a.board.slots) (sym same) kept.linked;
          replay =
              subst (λ a. IsReplay (bare_rules meaning) goals a.journal a.board) (sym same)
              kept.replay;
          history =
              subst (λ a. IfSome files (λ file. IsHistory (rules_of meaning file) meaning.ticks goals
              a.journal a.board a.spent)) (sym same) kept.history;
          room =
              subst (λ a. a.board.halted ≡ false → queued_count a.board.slots + 1 ≤ new.room) (sym same)
              (λ going. let room = kept.room going in omega arith);
        }

    -- an event, where it is one of the machine's
    pub event_kept : (old new : Table J V) (event : Event)
        → IsLinkedFor meaning new.account.board.slots
        → length new.account.board.slots + 1 ≤ new.room
        → IsReplay (bare_rules meaning) goals new.account.journal new.account.board
        → ((file : List ℕ → Found) → files ≡ Some file
        → IsHistory (rules_of meaning file) meaning.ticks goals new.account.journal
        new.account.board new.account.spent)
        → IsKept meaning files goals new
    event_kept old new event linked room replay history =
        record {
          linked = linked;
          replay = replay;
          history = go files refl;
          room = λ going. let few = queued_few new.account.board.slots in omega arith;
        }
      where
        go : (o : Option (List ℕ → Found)) → files ≡ o
            → IfSome o (λ file. IsHistory (rules_of meaning file) meaning.ticks goals
            new.account.journal new.account.board new.account.spent)
        go None e = tt
        go (Some file) e = history file e

both_true : (a b : Bool) → (a && b) ≡ true → (a ≡ true) × (b ≡ true)
both_true true true e = (refl, refl)
both_true true false e = absurd (cc)
both_true false b e = absurd (cc)

claimed_is : {A V R : Type 0} (worker count : ℕ) (state : State A V R)
    → is_claimed_by worker count state ≡ true → state ≡ Claimed worker count
claimed_is worker count (Claimed other answers) e =
    let r = both_true (worker == other) (count == answers) e in
    let w : other ≡ worker = grind (arith, nat_tests, r.0) in
    let n : answers ≡ count = grind (arith, nat_tests, r.1) in cc
claimed_is worker count (Queued answers) e = absurd (cc)
claimed_is worker count (OnFile answers need) e = absurd (cc)
claimed_is worker count (OnJob answers need place) e = absurd (cc)
claimed_is worker count (Valued v) e = absurd (cc)
claimed_is worker count (RefusedWith r) e = absurd (cc)

-- what is held stands
pub held_stands : {J A V R : Type 0} (text : J → List ℕ) (job : J) (worker count place : ℕ)
    (slots : List (Slot J A V R))
    → is_held text job worker count (slice_get slots place) ≡ true
    → (slot : Slot J A V R) × (slice_get slots place ≡ Some slot)
    × (slot.state ≡ Claimed worker count) × (text job ≡ text slot.job)
held_stands {J} {A} {V} {R} text job worker count place slots e = go (slice_get slots place) refl e
  where
    go : (o : Option (Slot J A V R)) → slice_get slots place ≡ o
        → is_held text job worker count o ≡ true
        → (slot : Slot J A V R) × (slice_get slots place ≡ Some slot)
        × (slot.state ≡ Claimed worker count) × (text job ≡ text slot.job)
    go None h f = absurd (cc)
    go (Some slot) h f =
        let r = both_true (is_claimed_by worker count slot.state)
        (bytes_eq (text job) (text slot.job)) f in
        (slot, h, claimed_is worker count slot.state r.0, text_same (text job) (text slot.job) r.1)

-- steps that were counted up to the last count
pub steps_same : (spent ticks steps : ℕ) → steps ≡ min ticks last_count
    → min (spent + steps) last_count ≡ min (spent + ticks) last_count
steps_same spent ticks steps e = omega (arith, e)

module _ {J V : Type 0} (meaning : Meaning J V) (files : Option (List ℕ → Found)) (goals : List J)
    (law : (file : List ℕ → Found) → Lawful (rules_of meaning file)) where
  -- what is held of the machine's board
  pub holds_of : (file : List ℕ → Found) (board : Board J Found V Refusal) (job : J)
      (worker count place : ℕ) (answers : List (Answer Found V))
      → is_held meaning.text job worker count (slice_get board.slots place) ≡ true
      → meaning.own job ≡ true → IsLinkedFor meaning board.slots
      → IsGiven (rules_of meaning file) job answers → length answers ≡ count
      → Holds (rules_of meaning file) board worker place job answers
  holds_of file board job worker count place answers held own linked given many =
      let r = held_stands meaning.text job worker count place board.slots held in
      record {
        slot = r.0;
        stands = r.1;
        is_job = (law file).same r.0.job job (linked.own place r.0 r.1) own (sym r.3);
        claimed = r.2 ∙ ap (λ n. Claimed worker n) (sym many);
        is_given = given;
      }

  -- the same, whatever the files are
  pub claimed_at : (board : Board J Found V Refusal) (job : J) (worker count place : ℕ)
      → is_held meaning.text job worker count (slice_get board.slots place) ≡ true
      → meaning.own job ≡ true → IsLinkedFor meaning board.slots
      → IsClaimedAt board worker place job count
  claimed_at board job worker count place held own linked =
      let r = held_stands meaning.text job worker count place board.slots held in
      record {
        slot = r.0;
        stands = r.1;
        is_job =
            (law (λ path. Found.TheVariants.Absent)).same r.0.job job (linked.own place r.0 r.1) own
            (sym r.3);
        claimed = r.2;
      }

  finished_replay : (events : List Event) (board : Board J Found V Refusal) (job : J)
      (worker count place : ℕ) (outcome : Result V Refusal)
      → IsClaimedAt board worker place job count
      → IsReplay (bare_rules meaning) goals events board
      → IsReplay (bare_rules meaning) goals
      (events ++ Events.Finish worker place (is_err outcome) ∷ []) (finish_with place outcome board)
  finished_replay events board job worker count place (Ok value) claimed before =
      Replays.happens before (Replays.values value claimed)
  finished_replay events board job worker count place (Err refusal) claimed before =
      Replays.happens before (Replays.refuses refusal claimed)

  finished_linked : (place : ℕ) (outcome : Result V Refusal) (board : Board J Found V Refusal)
      → IsLinkedFor meaning board.slots → IsLinkedFor meaning (finish_with place outcome board).slots
  finished_linked place (Ok value) board linked =
      value_linked (rules_of meaning (λ path. Found.TheVariants.Absent)) place value board.slots linked
  finished_linked place (Err refusal) board linked =
      spread_refusal_linked (rules_of meaning (λ path. Found.TheVariants.Absent)) place refusal
      board.slots linked

  finished_history : (file : List ℕ → Found) (events : List Event)
      (board : Board J Found V Refusal) (spent : ℕ) (job : J) (worker count place steps : ℕ)
      (outcome : Result V Refusal)
      → is_held meaning.text job worker count (slice_get board.slots place) ≡ true
      → meaning.own job ≡ true → IsLinkedFor meaning board.slots
      → IsOutcomeOf (rules_of meaning file) meaning.ticks job count outcome steps
      → IsHistory (rules_of meaning file) meaning.ticks goals events board spent
      → IsHistory (rules_of meaning file) meaning.ticks goals
      (events ++ Events.Finish worker place (is_err outcome) ∷ [])
      (finish_with place outcome board) (min (spent + steps) last_count)
  finished_history file events board spent job worker count place steps (Ok value) held own linked is
      before =
      subst (IsHistory (rules_of meaning file) meaning.ticks goals
      (events ++ Events.Finish worker place false ∷ []) (finish_with place (Ok value) board))
      (sym (steps_same spent (meaning.ticks job is.answers) steps is.ticked))
      (happens before (values (holds_of file board job worker count place is.answers held own linked is.is_given is.many) is.ends))
  finished_history file events board spent job worker count place steps (Err refusal) held own
      linked is before =
      subst (IsHistory (rules_of meaning file) meaning.ticks goals
      (events ++ Events.Finish worker place true ∷ []) (finish_with place (Err refusal) board))
      (sym (steps_same spent (meaning.ticks job is.answers) steps is.ticked))
      (happens before (refuses (holds_of file board job worker count place is.answers held own linked is.is_given is.many) is.ends))

  pub finished_kept : (old new : Table J V) (job : J) (worker count place steps : ℕ)
      (outcome : Result V Refusal)
      → is_held meaning.text job worker count (slice_get old.account.board.slots place) ≡ true
      → meaning.own job ≡ true
      → ((file : List ℕ → Found) → files ≡ Some file
      → IsOutcomeOf (rules_of meaning file) meaning.ticks job count outcome steps)
      → new.account ≡ ended (Events.Finish worker place (is_err outcome)) steps
      (finish_with place outcome old.account.board) old.account
      → length (finish_with place outcome old.account.board).slots + 1 ≤ new.room
      → IsKept meaning files goals old → IsKept meaning files goals new
  finished_kept old new job worker count place steps outcome held own is event room kept =
      event_kept meaning files goals old new (Events.Finish worker place (is_err outcome))
      (subst (λ a. IsLinkedFor meaning a.board.slots) (sym event)
      (finished_linked place outcome old.account.board kept.linked))
      (subst (λ a. length a.board.slots + 1 ≤ new.room) (sym event) room)
      (subst (λ a. IsReplay (bare_rules meaning) goals a.journal a.board) (sym event)
      (finished_replay old.account.journal old.account.board job worker count place outcome
      (claimed_at old.account.board job worker count place held own kept.linked) kept.replay))
      (λ file e. subst (λ a. IsHistory (rules_of meaning file) meaning.ticks goals a.journal a.board
      a.spent) (sym event)
      (finished_history file old.account.journal old.account.board old.account.spent job worker count
      place steps outcome held own kept.linked (is file e)
      (told_history meaning files goals file old e kept)))

-- a queued job less
fewer_queued : {J V : Type 0} (slots : List (Slot J Found V Refusal)) (place : ℕ)
    (slot new : Slot J Found V Refusal) → slice_get slots place ≡ Some slot
    → is_queued slot.state ≡ true → is_queued new.state ≡ false
    → queued_count (slice_set slots place new) + 1 ≡ queued_count slots
fewer_queued [] place slot new h on off = absurd (cc)
fewer_queued (one ∷ slots) zero slot new h on off =
    let same : one ≡ slot = cc in
    let first : is_queued one.state ≡ true = ap (λ s. is_queued s.state) same ∙ on in
    rw (off, first) (omega arith)
fewer_queued (one ∷ slots) (suc place) slot new h on off =
    go (is_queued one.state) (fewer_queued slots place slot new h on off)
  where
    go : (b : Bool) → queued_count (slice_set slots place new) + 1 ≡ queued_count slots
        → (if b then suc (queued_count (slice_set slots place new)) else queued_count (slice_set slots place new)) + 1
        ≡ (if b then suc (queued_count slots) else queued_count slots)
    go true e = omega arith
    go false e = e

module _ {J V : Type 0} (meaning : Meaning J V) (files : Option (List ℕ → Found)) (goals : List J)
    (law : (file : List ℕ → Found) → Lawful (rules_of meaning file)) where
  claim_room : (worker count : ℕ) (board : Board J Found V Refusal) (slot : Slot J Found V Refusal)
      (answers : List (Answer Found V))
      → slice_get board.slots (first_queued board.slots) ≡ Some slot → slot.state ≡ Queued answers
      → queued_count (set_state (first_queued board.slots) (Claimed worker count) board.slots) + 1
      ≡ queued_count board.slots
  claim_room worker count board slot answers stands queued =
      ap (λ xs. queued_count xs + 1)
      (put-set (λ one. record { job = one.job; state = Claimed worker count }) board.slots
      (first_queued board.slots) slot stands)
      ∙ fewer_queued board.slots (first_queued board.slots) slot
      (record { job = slot.job; state = Claimed worker count }) stands (ap is_queued queued) refl

  pub claimed_kept : {W P : Type 0} (job_of : P → J) (answers_of : P → List (Answer Found V))
      (worker : ℕ) (old new : Table J V) (result : Claim W J P V)
      → ClaimGives job_of answers_of worker old.account new.account result
      → old.room ≤ new.room + claim_count result
      → IsKept meaning files goals old → IsKept meaning files goals new
  claimed_kept job_of answers_of worker old new (Job held part given) claimed room kept =
      let board = old.account.board in
      let place = first_queued board.slots in
      let count = count_in (state_in (slice_get board.slots place)) in
      record {
        linked =
            subst (λ a. IsLinkedFor meaning a.board.slots) (sym claimed.event)
            (set_state_linked (rules_of meaning (λ path. Found.TheVariants.Absent)) place
            (Claimed worker count) board.slots refl tt kept.linked);
        replay =
            subst (λ a. IsReplay (bare_rules meaning) goals a.journal a.board) (sym claimed.event)
            (Replays.happens kept.replay (Replays.claims claimed.not_over claimed.stood refl));
        history =
            subst (λ a. IfSome files (λ file. IsHistory (rules_of meaning file) meaning.ticks goals
            a.journal a.board a.spent)) (sym claimed.event) (go files kept.history);
        room =
            subst (λ a. a.board.halted ≡ false → queued_count a.board.slots + 1 ≤ new.room)
            (sym claimed.event)
            (λ going. let before = kept.room going in
            let less = claim_room worker count board _ _ claimed.stood refl in omega arith);
      }
    where
      go : (o : Option (List ℕ → Found))
          → IfSome o (λ file. IsHistory (rules_of meaning file) meaning.ticks goals
          old.account.journal old.account.board old.account.spent)
          → IfSome o (λ file. IsHistory (rules_of meaning file) meaning.ticks goals
          (old.account.journal ++ Events.Claim worker (first_queued old.account.board.slots) ∷ [])
          (claim worker old.account.board) old.account.spent)
      go None h = tt
      go (Some file) h = happens h (claims claimed.not_over claimed.stood refl)
  claimed_kept job_of answers_of worker old new Nothing claimed room kept =
      unchanged_kept meaning files goals old new claimed.unchanged (omega (arith, room)) kept
  claimed_kept job_of answers_of worker old new Finished claimed room kept =
      unchanged_kept meaning files goals old new claimed.unchanged (omega (arith, room)) kept

  pub claimed_given : {W P : Type 0} (job_of : P → J) (answers_of : P → List (Answer Found V))
      (worker : ℕ) (old new : Table J V) (result : Claim W J P V) (file : List ℕ → Found)
      → files ≡ Some file
      → ClaimGives job_of answers_of worker old.account new.account result
      → IsKept meaning files goals old → IsGivenRightly (rules_of meaning file) answers_of result
  claimed_given job_of answers_of worker old new (Job held part given) file e claimed kept =
      (history_kept (rules_of meaning file) meaning.ticks goals (law file)
      (told_history meaning files goals file old e kept)).sound.stand
      (first_queued old.account.board.slots) _ claimed.stood
  claimed_given job_of answers_of worker old new Nothing file e claimed kept = tt
  claimed_given job_of answers_of worker old new Finished file e claimed kept = tt

  pub shelved_kept : (old new : Table J V) (need : ℕ) (path : List ℕ) (found : Found)
      → slice_get old.account.board.needs need ≡ Some (File path None)
      → ((file : List ℕ → Found) → files ≡ Some file → found ≡ file path)
      → new.account ≡ noted (Events.Shelve need) (shelve need found old.account.board) old.account
      → length (shelve need found old.account.board).slots + 1 ≤ new.room
      → IsKept meaning files goals old → IsKept meaning files goals new
  shelved_kept old new need path found open_need is event room kept =
      let board = old.account.board in
      event_kept meaning files goals old new (Events.Shelve need)
      (subst (λ a. IsLinkedFor meaning a.board.slots) (sym event)
      (hand_file_linked (rules_of meaning (λ path. Found.TheVariants.Absent)) need found board.slots
      kept.linked))
      (subst (λ a. length a.board.slots + 1 ≤ new.room) (sym event) room)
      (subst (λ a. IsReplay (bare_rules meaning) goals a.journal a.board) (sym event)
      (Replays.happens kept.replay (Replays.shelves found open_need)))
      (λ file e. subst (λ a. IsHistory (rules_of meaning file) meaning.ticks goals a.journal a.board
      a.spent) (sym event)
      (subst (λ f. IsHistory (rules_of meaning file) meaning.ticks goals
      (old.account.journal ++ Events.Shelve need ∷ []) (shelve need f board) old.account.spent)
      (sym (is file e))
      (happens (told_history meaning files goals file old e kept) (shelves open_need))))

  pub halted_kept : (old new : Table J V) → IsHalted old.account new.account
      → old.room ≤ new.room + 1 → (old.account.board.halted ≡ true → old.room ≤ new.room)
      → IsKept meaning files goals old → IsKept meaning files goals new
  halted_kept old new is less same kept = go old.account.board.halted refl is
    where
      go : (b : Bool) → old.account.board.halted ≡ b
          → MatchBool b (new.account ≡ old.account)
          (new.account ≡ noted Events.Halt (halt old.account.board) old.account)
          → IsKept meaning files goals new
      go true e unchanged = unchanged_kept meaning files goals old new unchanged (same e) kept
      go false e event =
          record {
            linked = subst (λ a. IsLinkedFor meaning a.board.slots) (sym event) kept.linked;
            replay =
                subst (λ a. IsReplay (bare_rules meaning) goals a.journal a.board) (sym event)
                (Replays.happens kept.replay (Replays.halts e));
            history =
                subst (λ a. IfSome files (λ file. IsHistory (rules_of meaning file) meaning.ticks
                goals a.journal a.board a.spent)) (sym event) (told files kept.history);
            room =
                subst (λ a. a.board.halted ≡ false → queued_count a.board.slots + 1 ≤ new.room)
                (sym event) (λ going. absurd (cc));
          }
        where
          told : (o : Option (List ℕ → Found))
              → IfSome o (λ file. IsHistory (rules_of meaning file) meaning.ticks goals
              old.account.journal old.account.board old.account.spent)
              → IfSome o (λ file. IsHistory (rules_of meaning file) meaning.ticks goals
              (old.account.journal ++ Events.Halt ∷ []) (halt old.account.board)
              old.account.spent)
          told None h = tt
          told (Some file) h = happens h (halts e)

-- what is open there is that file's need
pub open_at_is : (path : List ℕ) (needs : List (Needed Found)) (need : ℕ)
    → is_open_at path (slice_get needs need) ≡ true → slice_get needs need ≡ Some (File path None)
open_at_is path needs need is = go (slice_get needs need) refl is
  where
    go : (o : Option (Needed Found)) → slice_get needs need ≡ o → is_open_at path o ≡ true
        → o ≡ Some (File path None)
    go None e h = absurd (cc)
    go (Some (File other None)) e h =
        ap (λ p. Some (File p None)) (sym (text_same path other h))
    go (Some (File other (Some found))) e h = absurd (cc)
    go (Some (Boards.Job place)) e h = absurd (cc)

own_alike : {J V : Type 0} (meaning : Meaning J V) (file : List ℕ → Found) (goals : List J)
    → AllOwn (bare_rules meaning) goals → AllOwn (rules_of meaning file) goals
own_alike meaning file [] AllOwn.nil = AllOwn.nil
own_alike meaning file (goal ∷ goals) (AllOwn.cons own owned) =
    AllOwn.cons own (own_alike meaning file goals owned)

-- a board on which nothing has happened
pub opened_kept : {J V : Type 0} (meaning : Meaning J V) (files : Option (List ℕ → Found))
    (goals : List J) (slots : List (Slot J Found V Refusal)) (new : Table J V)
    → AllOwn (bare_rules meaning) goals
    → slots ≡ with_jobs (bare_rules meaning) goals []
    → new.account ≡ record {
      board = record { goals = length slots; slots = slots; needs = []; halted = false };
      journal = [];
      spent = 0;
    }
    → length slots + 1 ≤ new.room
    → IsKept meaning files goals new
opened_kept {J} {V} meaning files goals slots new own jobs is room =
    let made : new.account ≡ opened (bare_rules meaning) goals =
    is ∙ ap (λ xs. record {
      board = record { goals = length xs; slots = xs; needs = []; halted = false };
      journal = [];
      spent = 0;
    }) jobs in
    event_kept meaning files goals new new Events.Halt
    (subst (λ a. IsLinkedFor meaning a.board.slots) (sym made)
    (begin_kept (bare_rules meaning) goals own).linked)
    (subst (λ a. length a.board.slots + 1 ≤ new.room) (sym is) room)
    (subst (λ a. IsReplay (bare_rules meaning) goals a.journal a.board) (sym made) Replays.opening)
    (λ file e. subst (λ a. IsHistory (rules_of meaning file) meaning.ticks goals a.journal a.board
    a.spent) (sym made) (opening (own_alike meaning file goals own)))
