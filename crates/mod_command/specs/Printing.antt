-- What printing leaves on the two sinks.
use Rattle.std.specs.Prelude.{◌≡◌, ℕ, List}
use Rattle.mod_command.specs.Runs.{SinkRun, HasWhole, HasFront, IsTold, IsUntouched}
use Rattle.mod_command.specs.Statuses.{done_line, line_of}
use Rattle.mod_command.specs.declared.status.Status.{Status}
use Rattle.mod_command.specs.declared.status.Status.TheVariants.{Done, Refused, Usage, ReadFault}
use Rattle.mod_command.specs.declared.status.Status.TheVariants.{WriteFault, LockStale, OutOfMemory}
use Rattle.mod_command.specs.declared.status.Status.TheVariants.{LockFault}
use Rattle.mod_command.specs.declared.status.WhichSink.TheVariants as which
use Rattle.bz_tree.specs.declared.failures.Failure.{Failure}
use Rattle.bz_tree.specs.declared.failures.Failure.TheVariants as failure

abbrev pub status_of_failure : Failure → Status
status_of_failure (failure.Refused refusal) = Refused refusal
status_of_failure (failure.ReadFault path) = ReadFault path
status_of_failure failure.OutOfMemory = OutOfMemory

-- the text whole and then the line whole; or a front of the one or the other, with the status that
-- says so
abbrev pub IsPrinted : SinkRun → SinkRun → List ℕ → List ℕ → Status → Type 0
IsPrinted out err text line (Done evaluated reused steps) = (evaluated ≡ 0) × (reused ≡ 0)
    × (steps ≡ 0) × HasWhole out text × HasWhole err line
IsPrinted out err text line (WriteFault which.Out) = HasFront out text
    × IsTold err (line_of (WriteFault which.Out))
IsPrinted out err text line (WriteFault which.Err) = HasWhole out text × HasFront err line
IsPrinted out err text line (Refused refusal) = ⊥
IsPrinted out err text line Usage = ⊥
IsPrinted out err text line (ReadFault path) = ⊥
IsPrinted out err text line (LockStale key) = ⊥
IsPrinted out err text line OutOfMemory = ⊥
IsPrinted out err text line LockFault = ⊥

-- the same with the line of a run that is done; or memory ran out, and nothing is printed but the
-- line that says so
abbrev pub IsPrintedOrLacksMemory : SinkRun → SinkRun → List ℕ → Status → Type 0
IsPrintedOrLacksMemory out err text OutOfMemory = IsUntouched out × IsTold err (line_of OutOfMemory)
IsPrintedOrLacksMemory out err text (Done evaluated reused steps) = IsPrinted out err text
    (done_line 0 0) (Done evaluated reused steps)
IsPrintedOrLacksMemory out err text (WriteFault sink) = IsPrinted out err text (done_line 0 0)
    (WriteFault sink)
IsPrintedOrLacksMemory out err text (Refused refusal) = ⊥
IsPrintedOrLacksMemory out err text Usage = ⊥
IsPrintedOrLacksMemory out err text (ReadFault path) = ⊥
IsPrintedOrLacksMemory out err text (LockStale key) = ⊥
IsPrintedOrLacksMemory out err text LockFault = ⊥
