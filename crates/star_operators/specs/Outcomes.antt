-- What operators come to: a value that is there, or a cell that is to be made.
use Rattle.std.specs.Prelude.{ℤ, Bool, not}
use Rattle.std.specs.Prelude.{Result, Ok, Err}
use Rattle.star_core.specs.Heaps.{Change, HeapState, made}
use Rattle.star_core.specs.declared.faults.Fault.{Fault}
use Rattle.star_core.specs.declared.values.Val.{Val}
use Rattle.star_core.specs.declared.values.Val.TheVariants as val
use Rattle.star_operators.specs.declared.outcomes.Outcome.{Outcome}
use Rattle.star_operators.specs.declared.outcomes.Outcome.TheVariants.{Known, New}

-- an outcome, or why there is none
abbrev pub Came : Type 0
Came = Result Outcome Fault

-- a value that is there is given, and a cell is made, unless it is too large
abbrev pub finished : Came → HeapState → Change Val
finished (Ok (Known value)) heap = Ok (value, heap)
finished (Ok (New cell)) heap = made cell heap
finished (Err reason) heap = Err reason

-- a number, or why there is none
abbrev pub number_came : Result ℤ Fault → Came
number_came (Ok number) = Ok (Known (val.Int number))
number_came (Err reason) = Err reason

-- a truth, or why there is none
abbrev pub truth_came : Result Bool Fault → Came
truth_came (Ok flag) = Ok (Known (val.Bool flag))
truth_came (Err reason) = Err reason

-- the other truth
abbrev pub turned : Result Bool Fault → Result Bool Fault
turned (Ok flag) = Ok (not flag)
turned (Err reason) = Err reason
