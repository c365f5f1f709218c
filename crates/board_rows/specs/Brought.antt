-- What a worker brings back of a job that it claimed.
use Rattle.std.specs.Prelude.{ℕ, ◌≡◌, List, Option, Some, Ok, Err}
use Rattle.bz_tree.specs.declared.tree.Found.{Found}
use Rattle.bz_tree.specs.declared.tree.Found.TheVariants.{Absent}
use Rattle.board_laws.specs.Works.{Answer}
use Rattle.board_laws.specs.Results.{IsGiven}
use Rattle.board_work.specs.Turns.{Meaning, need_turn, rules_of}
use Rattle.board_work.specs.declared.turns.TurnOf.{TurnOf}
use Rattle.board_work.specs.declared.turns.TurnOf.TheVariants.{Done, Needs, Refused}
use Rattle.board_work.specs.declared.worker.Held.{Held}
use Rattle.board_core.specs.Calls.{IsAsking}
use Rattle.board_core.specs.Histories.{IsOutcomeOf}

-- no file is anywhere
abbrev pub no_files : List ℕ → Found
no_files path = Absent

-- the job that is held came to this by one step, after the answers that it was to be given
abbrev pub IsBrought : {W J P V : Type 0} → Meaning J V → (P → J) → (P → List (Answer Found V))
    → Option (List ℕ → Found) → Held W J P V → TurnOf P J V → Type 0
IsBrought meaning job_of answers_of files held (Needs part need) =
    (IsAsking meaning held.job (job_of part) (answers_of part) held.answers (need_turn need) 1)
    × ((file : List ℕ → Found) → files ≡ Some file
    → IsGiven (rules_of meaning file) held.job (answers_of part))
IsBrought meaning job_of answers_of files held (Done value) =
    (file : List ℕ → Found) → files ≡ Some file
    → IsOutcomeOf (rules_of meaning file) meaning.ticks held.job held.answers (Ok value) 1
IsBrought meaning job_of answers_of files held (Refused refusal) =
    (file : List ℕ → Found) → files ≡ Some file
    → IsOutcomeOf (rules_of meaning file) meaning.ticks held.job held.answers (Err refusal) 1
