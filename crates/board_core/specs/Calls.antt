-- What the calls of a board give.
use Rattle.std.specs.Prelude.{ℕ, ◌≡◌, Bool, true, false, List, Option, Result, Ok, Err}
use Rattle.std.specs.Prelude.{None, Some}
use Rattle.bz_tree.specs.declared.tree.Found.{Found}
use Rattle.bz_base.specs.declared.refusals.Refusal.{Refusal}
use Rattle.board_laws.specs.Works.{Answer, Rules, Turn}
use Rattle.bz_base.specs.Counts.{last_count}
use Rattle.board_work.specs.Turns.{Meaning}
use Rattle.std.specs.Prelude.{length, min}
use Rattle.board_laws.specs.Results.{IsGiven}
use Rattle.board_machine.specs.Boards.{Slot}
use Rattle.board_machine.specs.Events.{result_of}
use Rattle.board_work.specs.declared.worker.Claim.{Claim}
use Rattle.board_work.specs.declared.worker.Claim.TheVariants.{Job, Nothing, Finished}
use Rattle.board_slots.specs.Views.{queued_answers}
use Rattle.board_core.specs.Accounts.{Account}

-- where it was possible, it happened; else, and where memory ran out, nothing did
abbrev pub HappensIf : {J V E : Type 0} → Bool → Account J V → Account J V → Account J V
    → Result Bool E → Type 0
HappensIf possible old new after (Ok true) = (possible ≡ true) × (new ≡ after)
HappensIf possible old new after (Ok false) = (possible ≡ false) × (new ≡ old)
HappensIf possible old new after (Err e) = new ≡ old

-- where the files are told, the answers with which a job is handed out are what it was to be given
abbrev pub IsGivenRightly : {W J P V : Type 0} → Rules J (List ℕ) Found V Refusal
    → (P → List (Answer Found V)) → Claim W J P V → Type 0
IsGivenRightly rules answers_of (Job held part given) =
    IsGiven rules held.job (queued_answers answers_of part given)
IsGivenRightly rules answers_of Nothing = Unit {0}
IsGivenRightly rules answers_of Finished = Unit {0}

-- what the job at a place came to, if it is done
abbrev pub outcome_in : {J V : Type 0} → Option (Slot J Found V Refusal)
    → Option (Result V Refusal)
outcome_in None = None
outcome_in (Some slot) = result_of slot.state

-- the job at a place
abbrev pub job_at : {J V : Type 0} → Option (Slot J Found V Refusal) → Option J
job_at None = None
job_at (Some slot) = Some slot.job

-- a worker brings back a part of the job that it holds, whose next need this is, and the steps of
-- the turn that came to it
pub record IsAsking {J V : Type 0} (meaning : Meaning J V) (job part_job : J)
    (answers : List (Answer Found V)) (count : ℕ) (turn : Turn J (List ℕ) V Refusal) (steps : ℕ) :
    Type 0 where
  pub turned : part_job ≡ job
  pub many : length answers ≡ count
  pub needs : meaning.run job answers ≡ turn
  pub ticked : steps ≡ min (meaning.ticks job answers) last_count
