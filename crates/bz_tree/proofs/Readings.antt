-- What holds of the files that a tree tells.
use Rattle.std.proofs.Common.{◌≡◌, ℕ, ◌≤◌, List, Option, None, Some, IfSome, Result, Err, refl, ◌∙◌}
use Rattle.std.proofs.Common.{subst, arith}
use Rattle.bz_text.specs.Answers.{Gives}
use Rattle.bz_text.specs.declared.memory.Miss.{Miss}
use Rattle.bz_text.specs.declared.memory.Miss.TheVariants as miss
use Rattle.bz_base.specs.declared.refusals.Refusal.{Refusal}
use Rattle.bz_tree.specs.Failures.{GivesOver, ReadsOver, TreeRun, failure_of_miss}
use Rattle.bz_tree.specs.Places.{Files}
use Rattle.bz_tree.specs.declared.failures.Failure.{Failure}
use Rattle.bz_tree.specs.declared.failures.Failure.TheVariants.{Refused, ReadFault, OutOfMemory}

pub IfSome-told : (files : Option Files) (P : Files → Type 0)
    → IfSome files P
    → (look : Files)
    → files ≡ Some look
    → P look
IfSome-told None P holds look e = absurd (cc e)
IfSome-told (Some files) P holds look e = let same : files ≡ look = cc e in subst P same holds

pub IfSome-from_told : (files : Option Files) (P : Files → Type 0)
    → ((look : Files) → files ≡ Some look → P look)
    → IfSome files P
IfSome-from_told None P holds = tt
IfSome-from_told (Some files) P holds = holds files refl

-- a tree over a call, said part by part
abbrev pub run_of : Option Files → Option Files → ℕ → ℕ → List ℕ → TreeRun
run_of files files_now before now failed =
    record {
      files_before = files;
      files_now = files_now;
      faults_before = before;
      faults_now = now;
      failed_now = failed;
    }

-- a failure of one part is the same failure of the whole, where a refusal of the part is one of the
-- whole
pub GivesOver-failed : {A B : Type 0} (part : Files → Result A Refusal)
    (whole : Files → Result B Refusal) (files kept files_now : Option Files)
    (before middle now : ℕ) (failed : List ℕ) (failure : Failure)
    → kept ≡ files
    → before ≤ middle
    → ((look : Files) (refusal : Refusal)
    → files ≡ Some look
    → part look ≡ Err refusal
    → whole look ≡ Err refusal)
    → GivesOver part (run_of kept files_now middle now failed) (Err failure)
    → GivesOver whole (run_of files files_now before now failed) (Err failure)
GivesOver-failed part whole files kept files_now before middle now failed
    (Refused refusal) same grows refuses given =
    IfSome-from_told files (λ look. whole look ≡ Err refusal)
    (λ look e. refuses look refusal e
    (IfSome-told kept (λ l. part l ≡ Err refusal) given look (same ∙ e)))
GivesOver-failed part whole files kept files_now before middle now failed
    (ReadFault path) same grows refuses given =
    ((λ below. omega (arith, given.0 below, grows)), given.1)
GivesOver-failed part whole files kept files_now before middle now failed OutOfMemory same grows
    refuses given = tt

pub ReadsOver-failed : {A B : Type 0} (part : Files → Result A Refusal)
    (whole : Files → Result B Refusal) (files kept files_now : Option Files)
    (before middle now : ℕ) (failed : List ℕ) (failure : Failure)
    → kept ≡ files
    → before ≤ middle
    → ((look : Files) (refusal : Refusal)
    → files ≡ Some look
    → part look ≡ Err refusal
    → whole look ≡ Err refusal)
    → ReadsOver part (run_of kept files_now middle now failed) (Err failure)
    → ReadsOver whole (run_of files files_now before now failed) (Err failure)
ReadsOver-failed part whole files kept files_now before middle now failed failure same grows
    refuses given = (
      GivesOver-failed part whole files kept files_now before middle now failed failure same grows
          refuses given.0,
      given.1 ∙ same,
      omega (arith, given.2, grows),
    )

-- the same for a part that needs no tree
pub GivesOver-missed : {A B : Type 0} (part : Result A Refusal) (whole : Files → Result B Refusal)
    (run : TreeRun) (missed : Miss Refusal)
    → ((look : Files) (refusal : Refusal)
    → run.files_before ≡ Some look
    → part ≡ Err refusal
    → whole look ≡ Err refusal)
    → Gives part (Err missed)
    → GivesOver whole run (Err (failure_of_miss missed))
GivesOver-missed part whole run miss.OutOfMemory refuses given = tt
GivesOver-missed part whole run (miss.Because refusal) refuses given =
    IfSome-from_told run.files_before (λ look. whole look ≡ Err refusal)
    (λ look e. refuses look refusal e given)
