-- What a part of a command gave over a tree that may tell its files.
use Rattle.std.specs.Prelude.{◌≡◌, ◌≤◌, ℕ, List, Option, IfSome, Result, Ok, Err, ⊤}
use Rattle.bz_base.specs.Counts.{Rose}
use Rattle.bz_text.specs.declared.memory.Miss.{Miss}
use Rattle.bz_text.specs.declared.memory.Miss.TheVariants as miss
use Rattle.bz_base.specs.declared.refusals.Refusal.{Refusal}
use Rattle.bz_tree.specs.Places.{Files}
use Rattle.bz_tree.specs.declared.failures.Failure.{Failure}
use Rattle.bz_tree.specs.declared.failures.Failure.TheVariants.{Refused, ReadFault, OutOfMemory}

abbrev pub failure_of_miss : Miss Refusal → Failure
failure_of_miss miss.OutOfMemory = OutOfMemory
failure_of_miss (miss.Because refusal) = Refused refusal

-- a tree over a call: its files, where it tells them, and its counts of failed reads, each before
-- and after, and the path at which the last read failed
pub record TreeRun : Type 0 where
  pub files_before : Option Files
  pub files_now : Option Files
  pub faults_before : ℕ
  pub faults_now : ℕ
  pub failed_now : List ℕ

abbrev pub tree_run : {T : Type 0} → (T → Option Files) → (T → ℕ) → (T → List ℕ) → T → T → TreeRun
tree_run files faults failed before now =
    record {
      files_before = files before;
      files_now = files now;
      faults_before = faults before;
      faults_now = faults now;
      failed_now = failed now;
    }

-- the value or the refusal that the files give, where the tree tells them; or a read failed, at the
-- path that the tree then has, and its count rose; or memory ran out
abbrev pub GivesOver : {A : Type 0}
    → (Files → Result A Refusal)
    → TreeRun
    → Result A Failure
    → Type 0
GivesOver wanted run (Ok value) = IfSome run.files_before (λ look. wanted look ≡ Ok value)
GivesOver wanted run (Err (Refused refusal)) = IfSome run.files_before
    (λ look. wanted look ≡ Err refusal)
GivesOver wanted run (Err (ReadFault path)) = Rose run.faults_before run.faults_now
    × (path ≡ run.failed_now)
GivesOver wanted run (Err OutOfMemory) = ⊤

-- what a call gives that only reads a tree: its files stay, and the count of failed reads never
-- falls
abbrev pub ReadsOver : {A : Type 0}
    → (Files → Result A Refusal)
    → TreeRun
    → Result A Failure
    → Type 0
ReadsOver wanted run result =
    GivesOver wanted run result
    × (run.files_now ≡ run.files_before)
    × (run.faults_before ≤ run.faults_now)
