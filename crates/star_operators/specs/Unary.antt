-- The unary operators: the Starlark specification, "Unary operators".
use Rattle.std.specs.Prelude.{ℤ, not, Result, Ok, Err}
use Rattle.star_core.specs.Heaps.{Change, HeapState}
use Rattle.star_core.specs.declared.faults.Fault.{Fault}
use Rattle.star_core.specs.declared.faults.Fault.TheVariants as fault
use Rattle.star_core.specs.declared.values.Val.{Val}
use Rattle.star_core.specs.declared.values.Val.TheVariants as val
use Rattle.star_library.specs.Kinds.{is_true}
use Rattle.star_numbers.specs.Integers.{inverted, negated}
use Rattle.star_operators.specs.Outcomes.{Came, finished, number_came, truth_came}
use Rattle.star_trees.specs.declared.trees.UnOp.{UnOp}
use Rattle.star_trees.specs.declared.trees.UnOp.TheVariants as op

-- what an operator makes of an integer; of no other value
abbrev pub of_number : (ℤ → Result ℤ Fault) → Val → Came
of_number change (val.Int number) = number_came (change number)
of_number change val.None = Err fault.Kind
of_number change (val.Bool flag) = Err fault.Kind
of_number change (val.Cell number) = Err fault.Kind

-- `not` takes any value, the others an integer
abbrev pub unary_came : UnOp → HeapState → Val → Came
unary_came op.Not heap operand = truth_came (Ok (not (is_true heap operand)))
unary_came op.Plus heap operand = of_number Ok operand
unary_came op.Minus heap operand = of_number negated operand
unary_came op.Invert heap operand = of_number inverted operand

-- a unary operator on a value
abbrev pub unary_of : UnOp → Val → HeapState → Change Val
unary_of operator operand heap = finished (unary_came operator heap operand) heap
