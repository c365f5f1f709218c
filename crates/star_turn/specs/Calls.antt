-- A call of a host as the code has it, and what is done with the host's value.
use Rattle.std.specs.Prelude.{◌≡◌, ℕ, List, [], ◌∷◌, Option, Some, None}
use Rattle.std.specs.Prelude.{Result, Ok, Err, ⊤}
use Rattle.bz_text.specs.declared.memory.Miss.{Miss}
use Rattle.bz_text.specs.declared.memory.Miss.TheVariants as miss
use Rattle.star_core.specs.Hosts.{Field, HostCall, Method}
use Rattle.star_core.specs.Stacks.{taken}
use Rattle.star_core.specs.declared.faults.Fault.TheVariants as fault
use Rattle.star_core.specs.declared.values.Args.{Args}
use Rattle.star_core.specs.declared.values.Val.{Val}
use Rattle.star_machine.specs.declared.machine.Machine.{Machine}
use Rattle.star_meaning.specs.Arguments.{no_args}
use Rattle.star_meaning.specs.declared.reasons.Reason.{Reason}
use Rattle.star_meaning.specs.declared.reasons.Reason.TheVariants as reason
use Rattle.star_runs.specs.Runs.{Wanted}
use Rattle.star_turn.specs.declared.calls.Call.{Call}
use Rattle.star_turn.specs.declared.turns.Came.{Came}
use Rattle.star_turn.specs.declared.turns.Came.TheVariants as came

abbrev pub seen_with : ℕ → List ℕ → ℕ → Option Args → HostCall
seen_with object name line None = Field object name
seen_with object name line (Some args) = Method object name args line

-- what is called
abbrev pub call_seen : Call → HostCall
call_seen call = seen_with call.object call.name call.line call.args

-- a call that is wanted, of what lies below so many operands
pub record IsWanted (call : Call) (wanted : Wanted) (stack : List Val) : Type 0 where
  pub values : List Val
  pub top : Val
  pub below : List Val
  pub on_top : taken call.above [] stack ≡ Some (values, top ∷ below)
  pub is : wanted ≡ Some (call_seen call, below)

-- the call that is wanted, or none
abbrev pub Found : Option Call → Wanted → List Val → Type 0
Found None wanted stack = wanted ≡ None
Found (Some call) wanted stack = IsWanted call wanted stack

-- a machine before another instruction of its block
abbrev pub moved : ℕ → Machine → Machine
moved next machine = record machine { task = record machine.task { next = next } }

-- a machine with that value on top of these operands, and no arguments gathered, before another
-- instruction
abbrev pub put : Val → ℕ → List Val → Machine → Machine
put value next below machine =
    record machine {
      gathered = no_args;
      task = record machine.task { next = next; stack = value ∷ below };
    }

-- what lies below the one that is called or looked at
abbrev pub below_one : Option (List Val × List Val) → Option (List Val)
below_one None = None
below_one (Some (values, [])) = None
below_one (Some (values, top ∷ below)) = Some below

abbrev pub Answered : Option (List Val)
    → Val
    → ℕ
    → Machine
    → Result Came (Miss Reason)
    → Machine
    → Type 0
Answered below value next old (Err miss.OutOfMemory) new = ⊤
Answered None value next old (Ok answer) new = ⊥
Answered None value next old (Err (miss.Because why)) new = why ≡ reason.Fault fault.Kind
Answered (Some below) value next old (Ok answer) new =
    (answer ≡ came.On) × (new ≡ put value next below old)
Answered (Some below) value next old (Err (miss.Because why)) new = ⊥
