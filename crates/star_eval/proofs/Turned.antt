-- What a turn answers of what an evaluation stands for, and where it is parked.
use Rattle.std.proofs.Common.{◌≡◌, refl, sym, subst, ℕ, List, Result, Ok, Err}
use Rattle.bz_text.specs.declared.memory.Miss.{Miss}
use Rattle.bz_text.specs.declared.memory.Miss.TheVariants as miss
use Rattle.bz_text.specs.declared.memory.OutOfMemory.{OutOfMemory}
use Rattle.star_code.specs.declared.code.Code.{Code}
use Rattle.star_core.specs.Hosts.{HostCall, Meaning}
use Rattle.star_core.specs.Tables.{Table, Within}
use Rattle.star_eval.specs.Evaluations.{AnswersFor, AsksOnly, IsEnd, IsRefusedWith, Stands}
use Rattle.star_eval.specs.Reasons.{placed, refusal_for}
use Rattle.star_eval.specs.declared.evaluation.Evaluation.{Evaluation}
use Rattle.star_eval.specs.declared.evaluation.TurnEnd.{TurnEnd}
use Rattle.star_eval.specs.declared.evaluation.TurnEnd.TheVariants as end
use Rattle.star_machine.specs.Configs.{config_of}
use Rattle.star_meaning.specs.Libraries.{Rows}
use Rattle.star_meaning.specs.Results.{Outcome}
use Rattle.star_meaning.specs.declared.reasons.Reason.{Reason}
use Rattle.star_turn.specs.Turns.{ParksAt, Tells, Told}
use Rattle.star_turn.specs.declared.turns.Came.{Came}
use Rattle.star_turn.specs.declared.turns.Came.TheVariants as came

within_same : (answers : Table) → Within answers answers
within_same answers = record { kept = λ question answer is. is }

module _ {H : Type 0} (codes : List Code) (evaluation : Evaluation) (host : H) where
  told_ends : (outcome : Outcome H) (answer : Result Came (Miss Reason))
      (given : Result TurnEnd OutOfMemory)
      → Told outcome answer (config_of codes evaluation.machine) host
      → IsEnd evaluation.files.names evaluation.machine.task.place answer given
      → AnswersFor outcome given evaluation host
  told_ends outcome answer (Err memory) told ends = tt
  told_ends outcome (Ok came.On) (Ok given) told ends = absurd ends
  told_ends outcome (Ok (came.Done value)) (Ok given) told ends =
      subst (λ g. AnswersFor outcome (Ok g) evaluation host) (sym ends) told
  told_ends outcome (Ok (came.Asks question)) (Ok given) told ends =
      subst (λ g. AnswersFor outcome (Ok g) evaluation host) (sym ends) told
  told_ends outcome (Ok (came.Denied denied)) (Ok given) told ends =
      subst (λ g. AnswersFor outcome (Ok g) evaluation host) (sym ends)
      (subst (λ o. IsRefusedWith o (placed evaluation.files.names denied
      evaluation.machine.task.place) evaluation) (sym told) (refl, refl))
  told_ends outcome (Err (miss.Because why)) (Ok given) told ends =
      subst (λ g. AnswersFor outcome (Ok g) evaluation host) (sym ends)
      (subst (λ o. IsRefusedWith o (refusal_for evaluation.files.names why
      evaluation.machine.task.place) evaluation) (sym told) (refl, refl))
  told_ends outcome (Err miss.OutOfMemory) (Ok given) told ends = absurd (ends)

module _ {H : Type 0} (does : Meaning H HostCall) (library : Rows) (answers : Table)
    (old new : Evaluation) (before after : H) where
  answers_of : (meaning : Table → Outcome H) (answer : Result Came (Miss Reason))
      (given : Result TurnEnd OutOfMemory)
      → Stands does library meaning answers old before
      → Tells does library old.files.codes answers (config_of old.files.codes old.machine) before
      answer (config_of old.files.codes new.machine) after
      → IsEnd new.files.names new.machine.task.place answer given
      → AnswersFor (meaning answers) given new after
  answers_of meaning answer given stands tells ends =
      told_ends old.files.codes new after (meaning answers) answer given
      (tells (meaning answers) (stands.comes answers (within_same answers))) ends

  parked : (meaning : Table → Outcome H) (question_asked : Result Came (Miss Reason))
      (given : Result TurnEnd OutOfMemory)
      → new.files ≡ old.files
      → Stands does library meaning answers old before
      → ParksAt does library old.files.codes answers (config_of old.files.codes old.machine)
      before question_asked (config_of old.files.codes new.machine) after
      → IsEnd new.files.names new.machine.task.place question_asked given
      → AsksOnly given (Stands does library meaning answers new after)
  parked meaning answer (Err memory) same stands parks ends = tt
  parked meaning answer (Ok (end.Done value)) same stands parks ends = tt
  parked meaning answer (Ok (end.Refused refusal)) same stands parks ends = tt
  parked meaning (Ok (came.Asks other)) (Ok (end.Asks question)) same stands parks ends =
      record {
        comes = λ more within.
            rw same (parks.follows more (meaning more) within (stands.comes more within));
      }
  parked meaning (Ok came.On) (Ok (end.Asks question)) same stands parks ends = absurd ends
  parked meaning (Ok (came.Done value)) (Ok (end.Asks question)) same stands parks ends =
      absurd (cc ends)
  parked meaning (Ok (came.Denied denied)) (Ok (end.Asks question)) same stands parks ends =
      absurd (cc ends)
  parked meaning (Err (miss.Because why)) (Ok (end.Asks question)) same stands parks ends =
      absurd (cc ends)
  parked meaning (Err miss.OutOfMemory) (Ok (end.Asks question)) same stands parks ends =
      absurd ends

  -- the same of the codes and the names that the evaluation lends
  pub tells_at : (codes : List Code) (names : List (List ℕ)) (meaning : Table → Outcome H)
      (answer : Result Came (Miss Reason)) (given : Result TurnEnd OutOfMemory)
      → codes ≡ old.files.codes
      → names ≡ new.files.names
      → Stands does library meaning answers old before
      → Tells does library codes answers (config_of codes old.machine) before answer
      (config_of codes new.machine) after
      → IsEnd names new.machine.task.place answer given
      → AnswersFor (meaning answers) given new after
  tells_at codes names meaning answer given same named stands tells ends =
      answers_of meaning answer given stands
      (subst (λ c. Tells does library c answers (config_of c old.machine) before answer
      (config_of c new.machine) after) same tells)
      (subst (λ n. IsEnd n new.machine.task.place answer given) named ends)

  pub parks_at : (codes : List Code) (names : List (List ℕ)) (meaning : Table → Outcome H)
      (answer : Result Came (Miss Reason)) (given : Result TurnEnd OutOfMemory)
      → codes ≡ old.files.codes
      → names ≡ new.files.names
      → new.files ≡ old.files
      → Stands does library meaning answers old before
      → ParksAt does library codes answers (config_of codes old.machine) before answer
      (config_of codes new.machine) after
      → IsEnd names new.machine.task.place answer given
      → AsksOnly given (Stands does library meaning answers new after)
  parks_at codes names meaning answer given same named files stands parks ends =
      parked meaning answer given files stands
      (subst (λ c. ParksAt does library c answers (config_of c old.machine) before answer
      (config_of c new.machine) after) same parks)
      (subst (λ n. IsEnd n new.machine.task.place answer given) named ends)
