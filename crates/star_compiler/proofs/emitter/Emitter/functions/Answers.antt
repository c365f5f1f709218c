use Rattle.std.proofs.Common.{◌∙◌, ap, arith, length}
use Rattle.star_compiler.proofs.Functions.{all_emitted, at_index, none_emitted, one_emitted}
use Rattle.star_compiler.proofs.Functions.{one_longer}
use Rattle.star_compiler.proofs.emitter.Emitter.functions.Goals as goal

pub function-requires : goal.function-requires
function-requires c = c.loop-function.invariant.1.grows.tables.least ∙ c.requires

pub returns : goal.returns
returns c = all_emitted _ _ _ _ _ (omega arith) c.loop-function.invariant.1

pub loop-function-init : goal.loop-function-init
loop-function-init c = (
  ap length c.new-entries.ensures,
  none_emitted c.args.functions.now _ _ c.new-entries.ensures,
)

pub loop-function-preserved : goal.loop-function-preserved
loop-function-preserved c = (
  one_longer _ _ _ _ c.loop-function.invariant.0 c.in_ok-push.ensures.ok,
  one_emitted c.args.functions.now c.loop-function.function-index _ _ _ _ _ _ _ (omega arith)
      c.function-item.is c.loop-function.invariant.1
      (at_index (c.len-index.ensures ∙ c.loop-function.invariant.0) c.in_ok-entry.ensures)
      c.in_ok-push.ensures.ok,
)
