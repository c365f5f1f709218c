use Rattle.star_compiler.proofs.Functions.{value_block}
use Rattle.star_compiler.proofs.Growing.{if_ok}
use Rattle.star_compiler.proofs.emitter.Emitter.value_block.Goals as goal

pub returns : goal.returns
returns c =
    if_ok _ _ _ (λ block put. value_block _ _ _ _ _ _ _ _ c.new-out.ensures c.in_ok-put.ensures
    c.in_ok-expr.ensures put) c.keep_block.ensures
