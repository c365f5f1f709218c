-- The events of a board, where they are possible, and what they make of it.
use Rattle.std.specs.Prelude.{ℕ, Bool, true, false, ◌≡◌, List, [], ◌∷◌, length, Option, None, Some}
use Rattle.std.specs.Prelude.{slice_get, Result, Ok, Err}
use Rattle.std.specs.List.{position_or_len}
use Rattle.board_laws.specs.Works.{Answer, Rules, Done, Refused, Reads, Asks}
use Rattle.board_laws.specs.Results.{IsGiven}
use Rattle.board_machine.specs.Boards.{State, Queued, Claimed, OnFile, OnJob, Valued, RefusedWith}
use Rattle.board_machine.specs.Boards.{Slot, File, Board}
use Rattle.board_machine.specs.Kept.{IsSound, IsLinked}
use Rattle.board_machine.specs.Moves.{is_over, first_queued, claim, park_file, park_job, is_file}
use Rattle.board_machine.specs.Moves.{is_job, place_of, finish_value, finish_refused, shelve, halt}
use Rattle.board_machine.specs.Moves.{with_job}

pub data Event : Type 0 where
  Claim : (worker place : ℕ) → Event
  Park : (worker place need : ℕ) → Event
  Finish : (worker place : ℕ) (refused : Bool) → Event
  Shelve : (need : ℕ) → Event
  Halt : Event

-- the worker has claimed the job at that place, after these answers
pub record Holds {J A V R : Type 0} (rules : Rules J (List ℕ) A V R) (board : Board J A V R)
    (worker place : ℕ) (job : J) (answers : List (Answer A V)) : Type 0 where
  pub slot : Slot J A V R
  pub stands : slice_get board.slots place ≡ Some slot
  pub is_job : slot.job ≡ job
  pub claimed : slot.state ≡ Claimed worker (length answers)
  pub is_given : IsGiven rules job answers

pub data Step {J A V R : Type 0} (rules : Rules J (List ℕ) A V R) : Board J A V R → Event
    → Board J A V R → Type 0 where
  claims : {board : Board J A V R} {worker : ℕ} {slot : Slot J A V R} {answers : List (Answer A V)}
      → is_over board ≡ false → slice_get board.slots (first_queued board.slots) ≡ Some slot
      → slot.state ≡ Queued answers
      → Step rules board (Claim worker (first_queued board.slots)) (claim worker board)
  reads : {board : Board J A V R} {worker place : ℕ} {job : J} {answers : List (Answer A V)}
      {path : List ℕ}
      → Holds rules board worker place job answers → rules.run job answers ≡ Reads path
      → Step rules board (Park worker place (position_or_len (is_file path) board.needs))
      (park_file place answers path board)
  asks : {board : Board J A V R} {worker place : ℕ} {job asked : J} {answers : List (Answer A V)}
      → Holds rules board worker place job answers → rules.run job answers ≡ Asks asked
      → Step rules board
      (Park worker place
      (position_or_len (is_job (place_of rules asked board.slots)) board.needs))
      (park_job rules place job answers asked board)
  values : {board : Board J A V R} {worker place : ℕ} {job : J} {answers : List (Answer A V)}
      {v : V}
      → Holds rules board worker place job answers → rules.run job answers ≡ Done v
      → Step rules board (Finish worker place false) (finish_value place v board)
  refuses : {board : Board J A V R} {worker place : ℕ} {job : J} {answers : List (Answer A V)}
      {r : R}
      → Holds rules board worker place job answers → rules.run job answers ≡ Refused r
      → Step rules board (Finish worker place true) (finish_refused place r board)
  shelves : {board : Board J A V R} {need : ℕ} {path : List ℕ}
      → slice_get board.needs need ≡ Some (File path None)
      → Step rules board (Shelve need) (shelve need (rules.file path) board)
  halts : {board : Board J A V R} → board.halted ≡ false → Step rules board Halt (halt board)

pub data Run {J A V R : Type 0} (rules : Rules J (List ℕ) A V R) : Board J A V R → List Event
    → Board J A V R → Type 0 where
  nothing : {board : Board J A V R} → Run rules board [] board
  more : {board next after : Board J A V R} {event : Event} {events : List Event}
      → Step rules board event next → Run rules next events after
      → Run rules board (event ∷ events) after

pub record Kept {J A V R : Type 0} (rules : Rules J (List ℕ) A V R) (board : Board J A V R) : Type 0
  where
    pub sound : IsSound rules board
    pub linked : IsLinked rules board.slots

-- the goals, equal ones once
abbrev pub with_jobs : {J F A V R : Type 0} → Rules J F A V R → List J → List (Slot J A V R)
    → List (Slot J A V R)
with_jobs rules [] slots = slots
with_jobs rules (job ∷ jobs) slots = with_jobs rules jobs (with_job rules job slots)

abbrev pub begin : {J F A V R : Type 0} → Rules J F A V R → List J → Board J A V R
begin rules goals =
    record {
      goals = length (with_jobs rules goals []);
      slots = with_jobs rules goals [];
      needs =
          [];
      halted = false;
    }

abbrev pub IsDone : {A V R : Type 0} → State A V R → Type 0
IsDone (Valued v) = Unit {0}
IsDone (RefusedWith r) = Unit {0}
IsDone (Queued answers) = ⊥
IsDone (Claimed worker count) = ⊥
IsDone (OnFile answers need) = ⊥
IsDone (OnJob answers need place) = ⊥

abbrev pub result_of : {A V R : Type 0} → State A V R → Option (Result V R)
result_of (Valued v) = Some (Ok v)
result_of (RefusedWith r) = Some (Err r)
result_of (Queued answers) = None
result_of (Claimed worker count) = None
result_of (OnFile answers need) = None
result_of (OnJob answers need place) = None
