-- A job that parks on a file is an event of the board.
use Rattle.std.proofs.Common.{◌≡◌, ℕ, ◌+◌, ◌<◌, ◌≤◌, true, List, [], ◌∷◌, ◌++◌, length}
use Rattle.std.proofs.Common.{refl, ap, sym, ◌∙◌, subst, arith, Option, Some, None, slice_get}
use Rattle.std.specs.Prelude.{if◌then◌else◌, min, nat_lt}
use Rattle.std.specs.List.{position_or_len}
use Rattle.std.proofs.lemmas.Option.{slice_get_within}
use Rattle.std.proofs.lemmas.Bool.Decides.{nat_tests}
use Rattle.bz_base.specs.Counts.{last_count}
use Rattle.bz_base.specs.declared.refusals.Refusal.{Refusal}
use Rattle.bz_tree.specs.declared.tree.Found.{Found}
use Rattle.bz_tree.specs.declared.tree.Found
use Rattle.board_laws.specs.Results.{IsGiven}
use Rattle.board_laws.specs.Works.{Answer, Lawful, Reads}
use Rattle.board_laws.specs.Works
use Rattle.board_machine.specs.Boards.{Board, File, Needed, OnFile, Queued, Slot}
use Rattle.board_machine.specs.Boards
use Rattle.board_machine.specs.Events.{reads}
use Rattle.board_machine.specs.Events
use Rattle.board_machine.specs.Moves.{file_put, is_file, park_file, set_state, with_need, with_slots}
use Rattle.board_machine.proofs.Links.{set_state_linked}
use Rattle.board_slots.specs.Claims.{is_held}
use Rattle.board_slots.specs.Needs.{found_in}
use Rattle.board_slots.specs.Views.{bare_rules}
use Rattle.board_work.specs.Turns.{Meaning, rules_of}
use Rattle.board_core.specs.Accounts.{Table, ended, waiting_for_file}
use Rattle.board_core.specs.Histories.{IsHistory, IsKept, IsLinkedFor, happens}
use Rattle.board_core.specs.Replays.{IsClaimedAt, IsReplay}
use Rattle.board_core.specs.Replays
use Rattle.board_core.proofs.Keeping.{claimed_at, event_kept, held_stands, holds_of, steps_same, told_history}

-- the need of a file that was found stands already
found_stands : (path : List ℕ) (needs : List (Needed Found)) (need : ℕ) (found : Found)
    → need ≡ position_or_len (is_file path) needs
    → Some found ≡ found_in (slice_get needs need)
    → with_need (is_file path) (File path None) needs ≡ needs
found_stands path needs need found is h = go (slice_get needs need) refl h
  where
    go : (o : Option (Needed Found)) → slice_get needs need ≡ o → Some found ≡ found_in o
        → with_need (is_file path) (File path None) needs ≡ needs
    go None e h = absurd (cc)
    go (Some one) e h =
        let less = slice_get_within needs need one e in
        let below : nat_lt (position_or_len (is_file path) needs) (length needs) ≡ true =
        grind (arith, nat_tests, less, is) in
        ap (λ b. if b then needs else needs ++ File path None ∷ []) below

module _ {J V : Type 0} where
  put_found : (place : ℕ) (answers : List (Answer Found V)) (need : ℕ)
      (slots : List (Slot J Found V Refusal)) (found : Found) (o : Option (Needed Found))
      → Some found ≡ found_in o
      → set_state place (Queued (Works.Found found ∷ answers)) slots
      ≡ file_put place answers need o slots
  put_found place answers need slots found (Some (File path (Some other))) h =
      let same : found ≡ other = cc in
      ap (λ f. set_state place (Queued (Works.Found f ∷ answers)) slots) same
  put_found place answers need slots found (Some (File path None)) h = absurd (cc)
  put_found place answers need slots found (Some (Boards.Job other)) h = absurd (cc)
  put_found place answers need slots found None h = absurd (cc)

  put_waiting : (place : ℕ) (answers : List (Answer Found V)) (need : ℕ)
      (slots : List (Slot J Found V Refusal)) (o : Option (Needed Found)) → None ≡ found_in o
      → set_state place (OnFile answers need) slots ≡ file_put place answers need o slots
  put_waiting place answers need slots (Some (File path (Some other))) h = absurd (cc)
  put_waiting place answers need slots (Some (File path None)) h = refl
  put_waiting place answers need slots (Some (Boards.Job other)) h = refl
  put_waiting place answers need slots None h = refl

  parked : Board J Found V Refusal → List (Slot J Found V Refusal) → List (Needed Found)
      → Board J Found V Refusal
  parked board slots needs =
      record { goals = board.goals; slots = slots; needs = needs; halted = board.halted }

  pub answered_is : (place : ℕ) (answers : List (Answer Found V)) (need : ℕ) (path : List ℕ)
      (found : Found) (board : Board J Found V Refusal)
      → need ≡ position_or_len (is_file path) board.needs
      → Some found ≡ found_in (slice_get board.needs need)
      → with_slots (set_state place (Queued (Works.Found found ∷ answers)) board.slots) board
      ≡ park_file place answers path board
  unfolding parked
  answered_is place answers need path found board is h =
      ap (λ xs. parked board xs board.needs)
      (put_found place answers need board.slots found (slice_get board.needs need) h)
      ∙ ap (λ n. parked board (file_put place answers n (slice_get board.needs n) board.slots) board.needs) is
      ∙ ap (parked board (file_put place answers (position_or_len (is_file path) board.needs) (slice_get board.needs (position_or_len (is_file path) board.needs)) board.slots))
      (sym (found_stands path board.needs need found is h))

  pub waiting_is : (place : ℕ) (answers : List (Answer Found V)) (need : ℕ) (path : List ℕ)
      (board : Board J Found V Refusal)
      → need ≡ position_or_len (is_file path) board.needs
      → None ≡ found_in (slice_get board.needs need)
      → waiting_for_file place answers need path board ≡ park_file place answers path board
  unfolding parked
  waiting_is place answers need path board is h =
      ap (λ xs. parked board xs (with_need (is_file path) (File path None) board.needs))
      (put_waiting place answers need board.slots (slice_get board.needs need) h)
      ∙ ap (λ n. parked board (file_put place answers n (slice_get board.needs n) board.slots) (with_need (is_file path) (File path None) board.needs)) is

module _ {J V : Type 0} (meaning : Meaning J V) (files : Option (List ℕ → Found)) (goals : List J)
    (law : (file : List ℕ → Found) → Lawful (rules_of meaning file)) where
  put_linked : (place : ℕ) (answers : List (Answer Found V)) (need : ℕ)
      (o : Option (Needed Found)) (slots : List (Slot J Found V Refusal))
      → IsLinkedFor meaning slots → IsLinkedFor meaning (file_put place answers need o slots)
  put_linked place answers need (Some (File path (Some found))) slots linked =
      set_state_linked (rules_of meaning (λ path. Found.TheVariants.Absent)) place
      (Queued (Works.Found found ∷ answers)) slots refl tt linked
  put_linked place answers need (Some (File path None)) slots linked =
      set_state_linked (rules_of meaning (λ path. Found.TheVariants.Absent)) place
      (OnFile answers need) slots refl tt linked
  put_linked place answers need (Some (Boards.Job other)) slots linked =
      set_state_linked (rules_of meaning (λ path. Found.TheVariants.Absent)) place
      (OnFile answers need) slots refl tt linked
  put_linked place answers need None slots linked =
      set_state_linked (rules_of meaning (λ path. Found.TheVariants.Absent)) place
      (OnFile answers need) slots refl tt linked

  pub file_parked_kept : (old new : Table J V) (job : J) (worker count place steps : ℕ)
      (answers : List (Answer Found V)) (path : List ℕ)
      → is_held meaning.text job worker count (slice_get old.account.board.slots place) ≡ true
      → meaning.own job ≡ true
      → meaning.run job answers ≡ Reads path
      → length answers ≡ count
      → steps ≡ min (meaning.ticks job answers) last_count
      → ((file : List ℕ → Found) → files ≡ Some file → IsGiven (rules_of meaning file) job answers)
      → new.account ≡ ended
      (Events.Park worker place (position_or_len (is_file path) old.account.board.needs)) steps
      (park_file place answers path old.account.board) old.account
      → length (park_file place answers path old.account.board).slots + 1 ≤ new.room
      → IsKept meaning files goals old → IsKept meaning files goals new
  file_parked_kept old new job worker count place steps answers path held own run many ticked given
      event room kept =
      let board = old.account.board in
      let need = position_or_len (is_file path) board.needs in
      event_kept meaning files goals old new (Events.Park worker place need)
      (subst (λ a. IsLinkedFor meaning a.board.slots) (sym event)
      (put_linked place answers need (slice_get board.needs need) board.slots kept.linked))
      (subst (λ a. length a.board.slots + 1 ≤ new.room) (sym event) room)
      (subst (λ a. IsReplay (bare_rules meaning) goals a.journal a.board) (sym event)
      (Replays.happens kept.replay (Replays.reads (subst (IsClaimedAt board worker place job)
      (sym many) (claimed_at meaning files goals law board job worker count place held own kept.linked))
      run)))
      (λ file e. subst (λ a. IsHistory (rules_of meaning file) meaning.ticks goals a.journal a.board
      a.spent) (sym event)
      (subst (IsHistory (rules_of meaning file) meaning.ticks goals
      (old.account.journal ++ Events.Park worker place need ∷ [])
      (park_file place answers path board))
      (sym (steps_same old.account.spent (meaning.ticks job answers) steps ticked))
      (happens (told_history meaning files goals file old e kept)
      (reads (holds_of meaning files goals law file board job worker count place answers held own kept.linked (given file e) many) run))))

  -- the job that is held stands at its place
  pub job_there : (slots : List (Slot J Found V Refusal)) (job : J) (worker count place : ℕ)
      → is_held meaning.text job worker count (slice_get slots place) ≡ true
      → meaning.own job ≡ true → IsLinkedFor meaning slots
      → (slot : Slot J Found V Refusal) → slice_get slots place ≡ Some slot → job ≡ slot.job
  job_there slots job worker count place held own linked slot stands =
      let r = held_stands meaning.text job worker count place slots held in
      let same : r.0 ≡ slot = one_of r.1 stands in
      (law (λ path. Found.TheVariants.Absent)).same job slot.job own (linked.own place slot stands)
      (r.3 ∙ ap (λ s. meaning.text s.job) same)
    where
      one_of : {x y : Slot J Found V Refusal} → slice_get slots place ≡ Some x
          → slice_get slots place ≡ Some y → x ≡ y
      one_of e f = cc

pub held_within : {J V : Type 0} (text : J → List ℕ) (job : J) (worker count place : ℕ)
    (slots : List (Slot J Found V Refusal))
    → is_held text job worker count (slice_get slots place) ≡ true → place < length slots
held_within text job worker count place slots held =
    let r = held_stands text job worker count place slots held in
    slice_get_within slots place r.0 r.1
