-- What contracts see of a board: how it stands, what happened on it, and the steps spent.
use Rattle.std.specs.Prelude.{ℕ, ◌+◌, ◌≤◌, List, [], ◌∷◌, ◌++◌, ◌≡◌, min, suc}
use Rattle.std.specs.Prelude.{Result, Ok, Err, MatchBool, None, Option, length, option_map, if◌then◌else◌}
use Rattle.board_laws.specs.Recursive.{cycle_of}
use Rattle.bz_base.specs.declared.refusals.Refusal.{Refusal}
use Rattle.bz_base.specs.Counts.{last_count}
use Rattle.bz_tree.specs.declared.tree.Found.{Found}
use Rattle.board_laws.specs.Works.{Answer, Rules}
use Rattle.board_machine.specs.Boards.{Board, File, Job, OnFile, Queued, Slot, jobs_at, way_to}
use Rattle.board_machine.specs.Events
use Rattle.board_machine.specs.Events.{Event, begin}
use Rattle.board_machine.specs.Moves.{halt, is_file, is_job, is_queued, set_state, with_need}

pub record Account (J V : Type 0) : Type 0 where
  pub board : Board J Found V Refusal
  pub journal : List Event
  pub spent : ℕ

-- an event that ends no turn
abbrev pub noted : {J V : Type 0} → Event → Board J Found V Refusal → Account J V → Account J V
noted event board account =
    record { board = board; journal = account.journal ++ event ∷ []; spent = account.spent }

-- an event that ends a turn of so many steps; a count stays at its last value
abbrev pub ended : {J V : Type 0} → Event → ℕ → Board J Found V Refusal → Account J V
    → Account J V
ended event steps board account =
    record {
      board = board;
      journal = account.journal ++ event ∷ [];
      spent = min (account.spent + steps) last_count;
    }

-- an account, and for how many more events the journal has room
pub record Table (J V : Type 0) : Type 0 where
  pub account : Account J V
  pub room : ℕ

-- how many jobs are queued
abbrev pub queued_count : {J V : Type 0} → List (Slot J Found V Refusal) → ℕ
queued_count [] = 0
queued_count (slot ∷ slots) =
    if is_queued slot.state then suc (queued_count slots) else queued_count slots

-- there is room for each queued job's claim, and for one event more
abbrev pub HasRoom : {J V : Type 0} → Table J V → Type 0
HasRoom table = queued_count table.account.board.slots + 1 ≤ table.room

-- the call was one event, and left room for what may come; or memory ran out, and nothing changed
abbrev pub IsEvent : {J V T E : Type 0} → Table J V → Table J V → Account J V → Result T E → Type 0
IsEvent old new after (Ok x) =
    (new.account ≡ after) × (length after.board.slots + 1 ≤ new.room)
IsEvent old new after (Err e) = (new.account ≡ old.account) × (old.room ≤ new.room)

-- nothing goes on any more; a halted board is left as it is
abbrev pub IsHalted : {J V : Type 0} → Account J V → Account J V → Type 0
IsHalted old new =
    MatchBool old.board.halted (new ≡ old) (new ≡ noted Events.Halt (halt old.board) old)

-- the goals are queued, and nothing has happened
abbrev pub opened : {J V : Type 0} → Rules J (List ℕ) Found V Refusal → List J → Account J V
opened rules goals = record { board = begin rules goals; journal = []; spent = 0 }

-- the job at a place waits for the file of a need, which stands in the list of needs
abbrev pub waiting_for_file : {J V : Type 0} → ℕ → List (Answer Found V) → ℕ → List ℕ
    → Board J Found V Refusal → Board J Found V Refusal
waiting_for_file place answers need path board =
    record {
      goals = board.goals;
      slots = set_state place (OnFile answers need) board.slots;
      needs = with_need (is_file path) (File path None) board.needs;
      halted = board.halted;
    }

-- these jobs stand, and the need of the job at a place stands in the list of needs
abbrev pub wanting_job : {J V : Type 0} → ℕ → List (Slot J Found V Refusal)
    → Board J Found V Refusal → Board J Found V Refusal
wanting_job other slots board =
    record {
      goals = board.goals;
      slots = slots;
      needs = with_need (is_job other) (Job other) board.needs;
      halted = board.halted;
    }

-- the refusal of the cycle that a job closes by asking the job at another place, if it closes one
abbrev pub cycle_closed : {J V : Type 0} → Rules J (List ℕ) Found V Refusal → J → ℕ → ℕ
    → List (Slot J Found V Refusal) → Option Refusal
cycle_closed rules job place other slots =
    option_map (λ places. cycle_of rules (job ∷ jobs_at slots places)) (way_to slots place other)
