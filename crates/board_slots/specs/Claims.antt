-- What is handed out of a queued job, and what is brought back.
use Rattle.std.specs.Prelude.{ℕ, ◌≡◌, ◌<◌, ◌==◌, ◌&&◌, Bool, false, List, length, Option, Some}
use Rattle.std.specs.Prelude.{None, slice_get}
use Rattle.std.specs.Str.{bytes_eq}
use Rattle.bz_base.specs.declared.refusals.Refusal.{Refusal}
use Rattle.bz_base.specs.Counts.{last_count}
use Rattle.bz_tree.specs.declared.tree.Found.{Found}
use Rattle.board_laws.specs.Works.{Answer}
use Rattle.board_machine.specs.Boards
use Rattle.board_work.specs.declared.turns.Given.{Given}
use Rattle.board_work.specs.declared.worker.Claim.{Claim}
use Rattle.board_work.specs.declared.worker.Claim.TheVariants.{Job, Nothing, Finished}
use Rattle.board_work.specs.declared.worker.Held.{Held}
use Rattle.board_slots.specs.Views.{queued_answers, IsPartOf}

-- the job was queued after the answers that are handed out, and is claimed after them
pub record IsHandedOut {W J P V : Type 0} (job_of : P → J) (answers_of : P → List (Answer Found V))
    (worker place : ℕ) (old new : Boards.Slot J Found V Refusal) (held : Held W J P V)
    (part : Option P) (given : Option (Given V)) (answers : List (Answer Found V)) : Type 0 where
  pub worker_is : held.worker ≡ worker
  pub place_is : held.place ≡ place
  pub own : IsPartOf job_of held.job part given
  pub stood : old ≡ record { job = held.job; state = Boards.Queued answers }
  pub many : length answers ≡ held.answers
  pub claimed : new ≡ record { job = held.job; state = Boards.Claimed worker held.answers }

-- a job is handed out
abbrev pub IsTaken : {W J P V : Type 0} → (P → J) → (P → List (Answer Found V)) → ℕ → ℕ
    → Boards.Slot J Found V Refusal → Boards.Slot J Found V Refusal → Claim W J P V → Type 0
IsTaken job_of answers_of worker place old new (Job held part given) =
    IsHandedOut job_of answers_of worker place old new held part given
    (queued_answers answers_of part given)
IsTaken job_of answers_of worker place old new Nothing = ⊥
IsTaken job_of answers_of worker place old new Finished = ⊥

-- a worker brings back a part of the job with as many answers as it was given, and one more fits
pub record IsReturned {W J P V : Type 0} (job_of : P → J) (answers_of : P → List (Answer Found V))
    (job : J) (held : Held W J P V) (part : P) : Type 0 where
  pub same : held.job ≡ job
  pub own : job_of part ≡ job
  pub many : length (answers_of part) ≡ held.answers
  pub room : held.answers < last_count

-- the job is claimed by this worker after so many answers
abbrev pub is_claimed_by : {A V R : Type 0} → ℕ → ℕ → Boards.State A V R → Bool
is_claimed_by worker count (Boards.Claimed other answers) = (worker == other) && (count == answers)
is_claimed_by worker count (Boards.Queued answers) = false
is_claimed_by worker count (Boards.OnFile answers need) = false
is_claimed_by worker count (Boards.OnJob answers need place) = false
is_claimed_by worker count (Boards.Valued v) = false
is_claimed_by worker count (Boards.RefusedWith r) = false

-- what stands at a place is this job, claimed by this worker after so many answers
abbrev pub is_held : {J A V R : Type 0} → (J → List ℕ) → J → ℕ → ℕ → Option (Boards.Slot J A V R)
    → Bool
is_held text job worker count None = false
is_held text job worker count (Some slot) =
    is_claimed_by worker count slot.state && bytes_eq (text job) (text slot.job)

-- the same of the job that stands at the place
abbrev pub IsReturnedAt : {W J P V : Type 0} → (P → J) → (P → List (Answer Found V)) → Held W J P V
    → P → List (Boards.Slot J Found V Refusal) → Type 0
IsReturnedAt {J = J} {V = V} job_of answers_of held part slots =
    (slot : Boards.Slot J Found V Refusal) → slice_get slots held.place ≡ Some slot
    → IsReturned job_of answers_of slot.job held part
