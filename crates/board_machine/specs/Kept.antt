-- What every step keeps.
use Rattle.std.specs.Prelude.{ℕ, true, ◌≡◌, List, [], length, Option, None, Some, slice_get}
use Rattle.board_laws.specs.Works.{Answer, Rules, Asks, Reads}
use Rattle.board_laws.specs.Results.{IsGiven, ComesTo, IsRefusedWith}
use Rattle.board_machine.specs.Boards.{State, Queued, Claimed, OnFile, OnJob, Valued, RefusedWith}
use Rattle.board_machine.specs.Boards.{Slot, Needed, File, Board, next_at}

-- the answers that a job was given are what it was to be given, its need is its next one, and its
-- value or refusal is its own
pub record IsSoundClaim {J F A V R : Type 0} (rules : Rules J F A V R) (job : J) (count : ℕ) : Type
    0 where
  pub answers : List (Answer A V)
  pub is_given : IsGiven rules job answers
  pub many : length answers ≡ count

pub record WaitsForFile {J A V R : Type 0} (rules : Rules J (List ℕ) A V R)
    (needs : List (Needed A)) (job : J) (answers : List (Answer A V)) (need : ℕ) : Type 0 where
  pub path : List ℕ
  pub stands : slice_get needs need ≡ Some (File path None)
  pub is_given : IsGiven rules job answers
  pub reads : rules.run job answers ≡ Reads path

pub record WaitsForJob {J F A V R : Type 0} (rules : Rules J F A V R) (slots : List (Slot J A V R))
    (job : J) (answers : List (Answer A V)) (place : ℕ) : Type 0 where
  pub other : Slot J A V R
  pub stands : slice_get slots place ≡ Some other
  pub is_given : IsGiven rules job answers
  pub asks : rules.run job answers ≡ Asks other.job

abbrev pub IsSoundState : {J A V R : Type 0} → Rules J (List ℕ) A V R → List (Slot J A V R)
    → List (Needed A) → J → State A V R → Type 0
IsSoundState rules slots needs job (Queued answers) = IsGiven rules job answers
IsSoundState rules slots needs job (Claimed worker count) = IsSoundClaim rules job count
IsSoundState rules slots needs job (OnFile answers need) = WaitsForFile rules needs job answers need
IsSoundState rules slots needs job (OnJob answers need place) =
    WaitsForJob rules slots job answers place
IsSoundState rules slots needs job (Valued v) = ComesTo rules job [] v
IsSoundState rules slots needs job (RefusedWith r) = IsRefusedWith rules job r

-- where the files are told
pub record IsSound {J A V R : Type 0} (rules : Rules J (List ℕ) A V R) (board : Board J A V R) :
    Type 0 where
  pub stand : (place : ℕ) (slot : Slot J A V R) → slice_get board.slots place ≡ Some slot
      → IsSoundState rules board.slots board.needs slot.job slot.state
  pub shelf : (need : ℕ) (path : List ℕ) (found : A)
      → slice_get board.needs need ≡ Some (File path (Some found)) → found ≡ rules.file path

-- the chain of parked jobs from a place has an end
pub data ChainEnds (next : ℕ → Option ℕ) : ℕ → Type 0 where
  here : {place : ℕ} → next place ≡ None → ChainEnds next place
  goes : {place other : ℕ} → next place ≡ Some other → ChainEnds next other → ChainEnds next place

-- a job that waits for a job waits for one that stands on the board and isn't done
abbrev pub IsOpen : {A V R : Type 0} → State A V R → Type 0
IsOpen (Valued v) = ⊥
IsOpen (RefusedWith r) = ⊥
IsOpen (Queued answers) = Unit {0}
IsOpen (Claimed worker count) = Unit {0}
IsOpen (OnFile answers need) = Unit {0}
IsOpen (OnJob answers need place) = Unit {0}

pub record OpenAt {J A V R : Type 0} (slots : List (Slot J A V R)) (place : ℕ) : Type 0 where
  pub slot : Slot J A V R
  pub stands : slice_get slots place ≡ Some slot
  pub waits : IsOpen slot.state

-- whatever the files are: the jobs are the work's own and have different texts, a parked job waits
-- for an open one, and no chain closes
pub record IsLinked {J F A V R : Type 0} (rules : Rules J F A V R) (slots : List (Slot J A V R)) :
    Type 0 where
  pub own : (place : ℕ) (slot : Slot J A V R) → slice_get slots place ≡ Some slot
      → rules.own slot.job ≡ true
  pub apart : (i k : ℕ) (one other : Slot J A V R) → slice_get slots i ≡ Some one
      → slice_get slots k ≡ Some other → rules.text one.job ≡ rules.text other.job → i ≡ k
  pub linked : (place other : ℕ) → next_at slots place ≡ Some other → OpenAt slots other
  pub rests : (place : ℕ) → ChainEnds (next_at slots) place
