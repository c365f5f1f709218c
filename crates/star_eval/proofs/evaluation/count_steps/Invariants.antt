use Rattle.std.proofs.Common.{◌≡◌}
use Rattle.star_eval.specs.Evaluations.{ticked}
use Rattle.star_eval.proofs.evaluation.count_steps.Given as goal

abbrev pub invariant-loop-step : goal.invariant-loop-step
invariant-loop-step g l = l.steps ≡ ticked l.step l.fn.steps
