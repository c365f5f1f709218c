-- The state of a board, and the chains of its parked jobs.
use Rattle.std.specs.Prelude.{ℕ, zero, suc, ◌==◌, Bool, if◌then◌else◌, List, [], ◌∷◌, length}
use Rattle.std.specs.Prelude.{Option, None, Some, option_map, slice_get}
use Rattle.board_laws.specs.Works.{Answer}

-- a job waits to be claimed, is claimed after so many answers, waits for a file (a need) or for a
-- job (a need, and the job's place), or is done.
-- The answers stand latest first
pub data State (A V R : Type 0) : Type 0 where
  Queued : (answers : List (Answer A V)) → State A V R
  Claimed : (worker answers : ℕ) → State A V R
  OnFile : (answers : List (Answer A V)) (need : ℕ) → State A V R
  OnJob : (answers : List (Answer A V)) (need place : ℕ) → State A V R
  Valued : V → State A V R
  RefusedWith : R → State A V R

pub record Slot (J A V R : Type 0) : Type 0 where
  pub job : J
  pub state : State A V R

-- a file with what was found there, or the place of a job
pub data Needed (A : Type 0) : Type 0 where
  File : (path : List ℕ) (found : Option A) → Needed A
  Job : (place : ℕ) → Needed A

pub record Board (J A V R : Type 0) : Type 0 where
  pub goals : ℕ
  pub slots : List (Slot J A V R)
  pub needs : List (Needed A)
  pub halted : Bool

-- each item by its place, from a first place on
abbrev pub map_places : {X : Type 0} → (ℕ → X → X) → ℕ → List X → List X
map_places f place [] = []
map_places f place (x ∷ xs) = f place x ∷ map_places f (suc place) xs

-- the job for which a job waits
abbrev pub next_of : {A V R : Type 0} → State A V R → Option ℕ
next_of (OnJob answers need place) = Some place
next_of (Queued answers) = None
next_of (Claimed worker answers) = None
next_of (OnFile answers need) = None
next_of (Valued v) = None
next_of (RefusedWith r) = None

abbrev pub next_in : {J A V R : Type 0} → Option (Slot J A V R) → Option ℕ
next_in None = None
next_in (Some slot) = next_of slot.state

abbrev pub next_at : {J A V R : Type 0} → List (Slot J A V R) → ℕ → Option ℕ
next_at slots place = next_in (slice_get slots place)

abbrev pub option_then : {X Y : Type 0} → (X → Option Y) → Option X → Option Y
option_then f None = None
option_then f (Some x) = f x

-- the places from that one on, each before the one to which it leads, where they come to the goal
-- within so many steps
unfoldable pub walk : (ℕ → Option ℕ) → ℕ → ℕ → ℕ → Option (List ℕ)
walk next goal zero place = if place == goal then Some [] else None
walk next goal (suc steps) place =
    if place == goal then Some [] else option_then
    (λ other. option_map (λ places. place ∷ places) (walk next goal steps other)) (next place)

-- how the chain of parked jobs leads from a place to the goal
abbrev pub way_to : {J A V R : Type 0} → List (Slot J A V R) → ℕ → ℕ → Option (List ℕ)
way_to slots goal place = walk (next_at slots) goal (length slots) place

abbrev pub job_in : {J A V R : Type 0} → Option (Slot J A V R) → List J → List J
job_in None jobs = jobs
job_in (Some slot) jobs = slot.job ∷ jobs

abbrev pub jobs_at : {J A V R : Type 0} → List (Slot J A V R) → List ℕ → List J
jobs_at slots [] = []
jobs_at slots (place ∷ places) = job_in (slice_get slots place) (jobs_at slots places)
