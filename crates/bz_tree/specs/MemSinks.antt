-- A sink in memory, and what its writes answer and leave.
use Rattle.std.specs.Prelude.{ℕ, ◌-◌, min, Bool, ◌&&◌, not, ◌==◌, if◌then◌else◌, List, ◌++◌, length}
use Rattle.std.specs.Prelude.{take, Option, Some, Result, Ok, Err}
use Rattle.bz_base.specs.Counts.{counted}
use Rattle.bz_tree.specs.declared.faults.Failed.{Failed}
use Rattle.bz_tree.specs.Writes.{written_after}

-- what was written, how many bytes the sink still takes, and the count of failed writes
pub record MemSinkState : Type 0 where
  pub written : List ℕ
  pub room : ℕ
  pub faults : ℕ

-- a piece that isn't empty finds no room
abbrev pub is_full_for : MemSinkState → List ℕ → Bool
is_full_for sink bytes = sink.room == 0 && not (length bytes == 0)

-- as much of the piece as there is room for
abbrev pub write_of : MemSinkState → List ℕ → Result ℕ Failed
write_of sink bytes = if is_full_for sink bytes then Err (record {})
    else Ok (min (length bytes) sink.room)

abbrev pub after_write : MemSinkState → List ℕ → MemSinkState
after_write sink bytes =
    if is_full_for sink bytes
    then record { written = sink.written; room = sink.room; faults = counted sink.faults }
    else record {
      written = sink.written
          ++ take (min (length bytes) sink.room) bytes;
      room = sink.room - min
          (length bytes) sink.room;
      faults = sink.faults;
    }

-- what was written behind a write with this answer
abbrev pub after_writing : Result ℕ Failed → List ℕ → MemSinkState → Option (List ℕ)
after_writing result bytes sink = written_after result bytes (Some sink.written)
