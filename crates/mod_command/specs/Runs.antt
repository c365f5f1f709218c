-- What a call promises of the run that it ends.
use Rattle.std.specs.Prelude.{◌≡◌, ◌⊎◌, ℕ, List, Option, None, IsSome, IfSome, MatchOption, Result}
use Rattle.std.specs.Prelude.{Ok, Err}
use Rattle.bz_base.specs.Counts.{Rose}
use Rattle.bz_base.specs.declared.refusals.Refusal.{Refusal}
use Rattle.bz_tree.specs.Writes.{appended}
use Rattle.mod_command.specs.Commands.{command_of}
use Rattle.mod_command.specs.Graphs.{graph_text_of}
use Rattle.mod_command.specs.Statuses.{done_line, line_of, read_fault_line, refused_line}
use Rattle.bz_tree.specs.Failures.{TreeRun}
use Rattle.bz_tree.specs.Places.{Files}
use Rattle.mod_command.specs.Written.{IsFrontWritten}
use Rattle.mod_command.specs.declared.command.Command.{Command}
use Rattle.mod_command.specs.declared.command.Command.TheVariants.{Graph}
use Rattle.mod_command.specs.declared.status.Status.{Status}
use Rattle.mod_command.specs.declared.status.Status.TheVariants.{Done, Refused, Usage, ReadFault}
use Rattle.mod_command.specs.declared.status.Status.TheVariants.{WriteFault, LockStale, OutOfMemory}
use Rattle.mod_command.specs.declared.status.Status.TheVariants.{LockFault}
use Rattle.mod_command.specs.declared.status.WhichSink.TheVariants as which

-- a keeper over a run: the lockfile, where it tells it, and its counts of failed calls
pub record KeeperRun : Type 0 where
  pub held_before : Option (Option (List ℕ))
  pub held_now : Option (Option (List ℕ))
  pub faults_before : ℕ
  pub faults_now : ℕ

-- a sink over a run: what it holds, where it tells it, and its counts of failed writes
pub record SinkRun : Type 0 where
  pub written_before : Option (List ℕ)
  pub written_now : Option (List ℕ)
  pub faults_before : ℕ
  pub faults_now : ℕ

abbrev pub keeper_run : {K : Type 0} → (K → Option (Option (List ℕ))) → (K → ℕ) → K → K → KeeperRun
keeper_run held faults before now =
    record {
      held_before = held before;
      held_now = held now;
      faults_before = faults before;
      faults_now = faults now;
    }

abbrev pub sink_run : {S : Type 0} → (S → Option (List ℕ)) → (S → ℕ) → S → S → SinkRun
sink_run written faults before now =
    record {
      written_before = written before;
      written_now = written now;
      faults_before = faults
          before;
      faults_now = faults now;
    }

-- all that a run sees and leaves
pub record Run : Type 0 where
  pub words : List (List ℕ)
  pub tree : TreeRun
  pub lock : KeeperRun
  pub out : SinkRun
  pub err : SinkRun

-- the answer of a command: its text, or the first refusal
abbrev pub answer : Command → Files → Result (List ℕ) Refusal
answer Graph look = graph_text_of look

-- the words spell a command, of which this is the answer, where the tree tells its files
abbrev pub IsAnswered : Run → Result (List ℕ) Refusal → Type 0
IsAnswered run outcome =
    MatchOption (command_of run.words) ⊥
    (λ command. IfSome run.tree.files_before (λ look. answer command look ≡ outcome))

abbrev pub HasWhole : SinkRun → List ℕ → Type 0
HasWhole sink bytes = sink.written_now ≡ appended sink.written_before bytes

-- a write failed behind a front of the bytes
pub record HasFront (sink : SinkRun) (bytes : List ℕ) : Type 0 where
  pub front : IsFrontWritten sink.written_before bytes sink.written_now
  pub counted : Rose sink.faults_before sink.faults_now

-- the line stands there, or a front of it where a write failed
abbrev pub IsTold : SinkRun → List ℕ → Type 0
IsTold sink line = HasWhole sink line ⊎ HasFront sink line

abbrev pub IsUntouched : SinkRun → Type 0
IsUntouched sink = sink.written_now ≡ sink.written_before

-- the whole text on `out` and the whole line on `err`
pub record EndsDone (run : Run) (evaluated reused steps : ℕ) : Type 0 where
  pub none_evaluated : evaluated ≡ 0
  pub none_reused : reused ≡ 0
  pub no_steps : steps ≡ 0
  pub text : List ℕ
  pub answered : IsAnswered run (Ok text)
  pub out : HasWhole run.out text
  pub err : HasWhole run.err (done_line evaluated reused)

-- the command's first refusal
pub record EndsRefused (run : Run) (refusal : Refusal) : Type 0 where
  pub answered : IsAnswered run (Err refusal)
  pub out : IsUntouched run.out
  pub err : IsTold run.err (refused_line refusal)

-- the words spell no command
pub record EndsInUsage (run : Run) : Type 0 where
  pub no_command : command_of run.words ≡ None
  pub out : IsUntouched run.out
  pub err : IsTold run.err (line_of Usage)

-- a read failed, and its path is the tree's
pub record EndsInReadFault (run : Run) (path : List ℕ) : Type 0 where
  pub command : IsSome (command_of run.words)
  pub counted : Rose run.tree.faults_before run.tree.faults_now
  pub path_is : path ≡ run.tree.failed_now
  pub out : IsUntouched run.out
  pub err : IsTold run.err (read_fault_line path)

-- `out` failed behind a front of the text
pub record EndsInOutFault (run : Run) : Type 0 where
  pub text : List ℕ
  pub answered : IsAnswered run (Ok text)
  pub out : HasFront run.out text
  pub err : IsTold run.err (line_of (WriteFault which.Out))

-- the whole text stands on `out`, and `err` failed behind a front of the line of a run that is done
pub record EndsInErrFault (run : Run) : Type 0 where
  pub text : List ℕ
  pub answered : IsAnswered run (Ok text)
  pub out : HasWhole run.out text
  pub err : HasFront run.err (done_line 0 0)

-- memory ran out before a byte was printed
pub record EndsOutOfMemory (run : Run) : Type 0 where
  pub out : IsUntouched run.out
  pub err : IsTold run.err (line_of OutOfMemory)

-- what each status says of its run; no command reads or replaces the lockfile yet
abbrev pub EndsAs : Run → Status → Type 0
EndsAs run (Done evaluated reused steps) = EndsDone run evaluated reused steps
EndsAs run (Refused refusal) = EndsRefused run refusal
EndsAs run Usage = EndsInUsage run
EndsAs run (ReadFault path) = EndsInReadFault run path
EndsAs run (WriteFault which.Out) = EndsInOutFault run
EndsAs run (WriteFault which.Err) = EndsInErrFault run
EndsAs run (LockStale key) = ⊥
EndsAs run OutOfMemory = EndsOutOfMemory run
EndsAs run LockFault = ⊥

-- what a call promises of its run and its status
pub record Promised (run : Run) (status : Status) : Type 0 where
  pub ends : EndsAs run status
  pub lockfile_kept : run.lock.held_now ≡ run.lock.held_before
  pub keeper_untouched : run.lock.faults_now ≡ run.lock.faults_before
