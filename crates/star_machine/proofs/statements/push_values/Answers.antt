use Rattle.std.proofs.Common.{arith}
use Rattle.star_machine.proofs.PushedValues.{none_yet, one_more}
use Rattle.star_machine.proofs.statements.push_values.Goals as goal

pub values-init : goal.values-init
values-init c = (omega arith, none_yet c.args.values.now _)

pub values-preserved : goal.values-preserved
values-preserved c = (
  omega arith,
  one_more c.args.values.now _ _ _ c.values.left _ (omega arith) (omega arith)
      c.values.invariant.1 c.in_ok-push.ensures.ok,
)
