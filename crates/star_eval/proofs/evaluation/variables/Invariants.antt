use Rattle.std.proofs.Common.{◌≡◌, map, take, Some}
use Rattle.star_eval.proofs.evaluation.variables.Given as goal

abbrev pub invariant-loop-value : goal.invariant-loop-value
invariant-loop-value l = l.slots ≡ map Some (take l.value-index l.values)
