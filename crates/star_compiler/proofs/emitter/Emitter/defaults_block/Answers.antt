use Rattle.std.proofs.Common.{arith}
use Rattle.star_compiler.proofs.Functions.{all_defaults, exprs_block, more_defaults}
use Rattle.star_compiler.proofs.Functions.{no_defaults}
use Rattle.star_compiler.proofs.Growing.{if_ok}
use Rattle.star_compiler.proofs.emitter.Emitter.defaults_block.Goals as goal

pub params-init : goal.params-init
params-init c = (omega arith, no_defaults c.args.params.now _ _)

pub params-preserved : goal.params-preserved
params-preserved c = (
  omega arith,
  more_defaults c.args.params.now c.params.left _ _ _ _ _ _ _ (omega arith) (omega arith)
      c.index-params-left.is c.params.invariant.1 c.in_ok-default.ensures,
)

pub returns : goal.returns
returns c =
    if_ok _ _ _ (λ block put. exprs_block _ _ _ _ _ _ _ c.new-out.ensures
    (all_defaults c.args.params.now c.params.left _ _ _ _ (omega arith) c.params.invariant.1) put)
    c.keep_block.ensures
