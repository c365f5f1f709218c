-- What a claim gives.
use Rattle.std.specs.Prelude.{ℕ, ◌≡◌, true, false, List, length, Option, Some, slice_get, slice_set}
use Rattle.bz_base.specs.declared.refusals.Refusal.{Refusal}
use Rattle.bz_tree.specs.declared.tree.Found.{Found}
use Rattle.board_laws.specs.Works.{Answer}
use Rattle.board_machine.specs.Boards.{Slot, Queued}
use Rattle.board_machine.specs.Events
use Rattle.board_machine.specs.Moves.{claim, first_queued, is_over, is_queued}
use Rattle.board_work.specs.declared.turns.Given.{Given}
use Rattle.board_work.specs.declared.worker.Claim.{Claim}
use Rattle.board_work.specs.declared.worker.Claim.TheVariants.{Job, Nothing, Finished}
use Rattle.board_work.specs.declared.worker.Held.{Held}
use Rattle.board_slots.specs.Claims.{IsTaken}
use Rattle.board_slots.specs.Views.{IsPartOf, queued_answers}
use Rattle.board_core.specs.Accounts.{Account, noted}

-- the queued job with the least number is claimed, after the answers with which it is handed out
pub record IsClaimed {W J P V : Type 0} (job_of : P → J) (worker : ℕ) (old new : Account J V)
    (held : Held W J P V) (part : Option P) (given : Option (Given V))
    (answers : List (Answer Found V)) : Type 0 where
  pub worker_is : held.worker ≡ worker
  pub place_is : held.place ≡ first_queued old.board.slots
  pub own : IsPartOf job_of held.job part given
  pub stood : slice_get old.board.slots (first_queued old.board.slots)
      ≡ Some (record { job = held.job; state = Queued answers })
  pub many : length answers ≡ held.answers
  pub not_over : is_over old.board ≡ false
  pub event : new
      ≡ noted (Events.Claim worker (first_queued old.board.slots)) (claim worker old.board) old

-- there is nothing to claim just now
pub record IsIdle {J V : Type 0} (old new : Account J V) : Type 0 where
  pub not_over : is_over old.board ≡ false
  pub none_queued : first_queued old.board.slots ≡ length old.board.slots
  pub unchanged : new ≡ old

-- there will be nothing to claim any more
pub record IsOver {J V : Type 0} (old new : Account J V) : Type 0 where
  pub over : is_over old.board ≡ true
  pub unchanged : new ≡ old

abbrev pub ClaimGives : {W J P V : Type 0} → (P → J) → (P → List (Answer Found V)) → ℕ
    → Account J V → Account J V → Claim W J P V → Type 0
ClaimGives job_of answers_of worker old new (Job held part given) =
    IsClaimed job_of worker old new held part given (queued_answers answers_of part given)
ClaimGives job_of answers_of worker old new Nothing = IsIdle old new
ClaimGives job_of answers_of worker old new Finished = IsOver old new

-- how many claims a claim's answer stands for
abbrev pub claim_count : {W J P V : Type 0} → Claim W J P V → ℕ
claim_count (Job held part given) = 1
claim_count Nothing = 0
claim_count Finished = 0
