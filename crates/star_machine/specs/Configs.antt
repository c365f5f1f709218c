-- Where a machine stands, as lists: what is left of each block is the list of its instructions, so
-- that nothing speaks of positions.
use Rattle.std.specs.Prelude.{ℕ, List, [], map, drop, Option, Some, None, option_and_then}
use Rattle.std.specs.Prelude.{slice_get}
use Rattle.star_code.specs.declared.code.Code.{Code}
use Rattle.star_code.specs.declared.code.Instr.{Instr}
use Rattle.star_core.specs.declared.values.Args.{Args}
use Rattle.star_core.specs.declared.values.Val.{Val}
use Rattle.star_machine.specs.declared.machine.Later.{Later}
use Rattle.star_machine.specs.declared.machine.Later.TheVariants as later
use Rattle.star_machine.specs.declared.machine.Machine.{Machine}
use Rattle.star_machine.specs.declared.machine.Task.{Task}
use Rattle.star_meaning.specs.Worlds.{World}
use Rattle.star_meaning.specs.declared.reasons.Exit.{Exit}
use Rattle.star_meaning.specs.declared.reasons.Place.{Place}
use Rattle.star_meaning.specs.declared.reasons.Running.{Running}

-- the code that is left to run, or how a loop or a function is being left
pub data Doing : Type 0 where
  Runs : List Instr → Doing
  Leaves : Exit → Doing

-- what goes on where a block ends: the code behind it; the same in the scope round one that ends
-- with the block; or the turns of a loop over the items that are left of a container, each run by
-- this code, from where the loop's statement begins
pub data Onward : Type 0 where
  Behind : List Instr → Onward
  Outwards : (scope : ℕ) → List Instr → Onward
  Turns : (items : List Val)
      (over : Val)
      (body : List Instr)
      (place : Option Place)
      (rest : List Instr)
      → Onward

-- a run of a function or a file that waits for a call
pub record Caller : Type 0 where
  pub file : ℕ
  pub rest : List Instr
  pub stack : List Val
  pub onward : List Onward
  pub scope : ℕ
  pub place : Option Place

-- the file whose code runs, what is being done, the operands, the arguments that were gathered for
-- a call, what goes on behind, the runs that wait, the functions of which calls run, and the world
pub record Config : Type 0 where
  pub file : ℕ
  pub doing : Doing
  pub stack : List Val
  pub gathered : Args
  pub onward : List Onward
  pub callers : List Caller
  pub running : List Running
  pub world : World

abbrev pub or_nothing : Option (List Instr) → List Instr
or_nothing None = []
or_nothing (Some block) = block

-- a block of a file's code; nothing where there is none
unfoldable pub block_of : List Code → ℕ → ℕ → List Instr
block_of codes file block =
    or_nothing (option_and_then (λ code. slice_get code.blocks block) (slice_get codes file))

-- what is left of a block from an instruction on
unfoldable pub left_of : List Code → ℕ → ℕ → ℕ → List Instr
left_of codes file block next = drop next (block_of codes file block)

abbrev pub onward_of : List Code → ℕ → Later → Onward
onward_of codes file (later.Behind block next) = Behind (left_of codes file block next)
onward_of codes file (later.Outwards scope block next) =
    Outwards scope (left_of codes file block next)
onward_of codes file (later.Turns turns) =
    Turns turns.items turns.over (block_of codes file turns.body) turns.place
    (left_of codes file turns.block turns.next)

abbrev pub caller_of : List Code → Task → Caller
caller_of codes task =
    record {
      file = task.file;
      rest = left_of codes task.file task.block task.next;
      stack = task.stack;
      onward = map (onward_of codes task.file) task.later;
      scope = task.scope;
      place = task.place;
    }

abbrev pub doing_of : List Code → Option Exit → Task → Doing
doing_of codes None task = Runs (left_of codes task.file task.block task.next)
doing_of codes (Some exit) task = Leaves exit

abbrev pub world_of : Machine → World
world_of machine =
    record {
      scope = machine.task.scope;
      scopes = machine.scopes;
      heap = machine.heap;
      count = machine.count;
      limit = machine.limit;
      place = machine.task.place;
    }

-- where a machine stands in the code of these files
abbrev pub config_of : List Code → Machine → Config
config_of codes machine =
    record {
      file = machine.task.file;
      doing = doing_of codes machine.leaving machine.task;
      stack = machine.task.stack;
      gathered = machine.gathered;
      onward = map (onward_of codes machine.task.file) machine.task.later;
      callers = map (caller_of codes) machine.callers;
      running = machine.running;
      world = world_of machine;
    }
