-- Statuses, their numbers and their lines.
use Rattle.std.specs.Prelude.{ℕ, ◌==◌, if◌then◌else◌, List, [], ◌++◌, codes, decimal, length}
use Rattle.bz_base.specs.declared.refusals.Refusal.{Refusal}
use Rattle.bz_base.specs.Refusals.{code_name}
use Rattle.mod_command.specs.declared.status.Status.{Status}
use Rattle.mod_command.specs.declared.status.Status.TheVariants.{Done, Refused, Usage, ReadFault}
use Rattle.mod_command.specs.declared.status.Status.TheVariants.{WriteFault, LockStale, OutOfMemory}
use Rattle.mod_command.specs.declared.status.Status.TheVariants.{LockFault}

-- the exit status of the program
abbrev pub number_of : Status → ℕ
number_of (Done evaluated reused steps) = 0
number_of (Refused refusal) = 1
number_of Usage = 2
number_of (ReadFault path) = 3
number_of (WriteFault sink) = 4
number_of (LockStale key) = 5
number_of OutOfMemory = 6
number_of LockFault = 7

-- `:LINE`, left out where there is no line; where the line is 0 the hint stands for it
abbrev pub line_part : ℕ → List ℕ
line_part line = if line == 0 then [] else codes ":" ++ decimal line

-- ` at FILE:LINE`, left out where there is no file
abbrev pub location_part : Refusal → List ℕ
location_part refusal =
    if length refusal.file == 0 then []
    else codes " at " ++ refusal.file
    ++ line_part (if refusal.line == 0 then refusal.hint else refusal.line)

-- `: DETAIL`, left out where there is none
abbrev pub detail_part : List ℕ → List ℕ
detail_part detail = if length detail == 0 then [] else codes ": " ++ detail

unfoldable pub refused_line : Refusal → List ℕ
refused_line refusal =
    codes "modtool: refused " ++ code_name refusal.code ++ location_part refusal
    ++ detail_part refusal.detail ++ codes "\n"

unfoldable pub done_line : ℕ → ℕ → List ℕ
done_line evaluated reused =
    codes "modtool: ok, " ++ decimal evaluated ++ codes " evaluated, " ++ decimal reused
    ++ codes " reused\n"

unfoldable pub read_fault_line : List ℕ → List ℕ
read_fault_line path = codes "modtool: read fault: " ++ path ++ codes "\n"

unfoldable pub lock_stale_line : List ℕ → List ℕ
lock_stale_line key = codes "modtool: lockfile is stale: " ++ key ++ codes "\n"

-- the line that a status leaves on `err`
abbrev pub line_of : Status → List ℕ
line_of (Done evaluated reused steps) = done_line evaluated reused
line_of (Refused refusal) = refused_line refusal
line_of Usage = codes "modtool: usage\n"
line_of (ReadFault path) = read_fault_line path
line_of (WriteFault sink) = codes "modtool: write fault\n"
line_of (LockStale key) = lock_stale_line key
line_of OutOfMemory = codes "modtool: out of memory\n"
line_of LockFault = codes "modtool: lockfile fault\n"
