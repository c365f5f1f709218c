-- Jobs that come to the list of jobs, and that are handed out of it.
use Rattle.std.specs.Prelude.{ℕ, ◌≡◌, true, List, [], ◌∷◌, ◌++◌, Some, slice_get, slice_set}
use Rattle.bz_base.specs.declared.refusals.Refusal.{Refusal}
use Rattle.bz_tree.specs.declared.tree.Found.{Found}
use Rattle.board_laws.specs.Works.{Answer}
use Rattle.board_machine.specs.Boards.{Queued, Slot}
use Rattle.board_machine.specs.Moves.{is_queued}
use Rattle.board_slots.specs.Claims.{IsTaken}
use Rattle.board_work.specs.declared.worker.Claim.{Claim}

-- the job at a place is queued
abbrev pub IsQueuedAt : {J V : Type 0} → ℕ → List (Slot J Found V Refusal) → Type 0
IsQueuedAt {J = J} {V = V} place slots =
    (slot : Slot J Found V Refusal) → slice_get slots place ≡ Some slot
    → is_queued slot.state ≡ true

-- the job that stands at a place is handed out
abbrev pub IsTakenAt : {W J P V : Type 0} → (P → J) → (P → List (Answer Found V)) → ℕ → ℕ
    → List (Slot J Found V Refusal) → List (Slot J Found V Refusal) → Claim W J P V → Type 0
IsTakenAt {J = J} {V = V} job_of answers_of worker place old new result =
    (slot : Slot J Found V Refusal) → slice_get old place ≡ Some slot
    → (after : Slot J Found V Refusal)
    × IsTaken job_of answers_of worker place slot after result × (new ≡ slice_set old place after)

-- one job more, queued
abbrev pub with_new : {J V : Type 0} → J → List (Slot J Found V Refusal)
    → List (Slot J Found V Refusal)
with_new job slots = slots ++ record { job = job; state = Queued [] } ∷ []
