use Rattle.star_compiler.proofs.Functions.{block_body, value_body}
use Rattle.star_compiler.proofs.Growing.{if_ok}
use Rattle.star_compiler.proofs.emitter.Emitter.body.Goals as goal

pub returns-in-Block : goal.returns-in-Block
returns-in-Block c =
    if_ok _ _ _ (λ block emitted. block_body _ _ _ _ _ _ c.in-Block.is c.as_slice.ensures emitted)
    c.block.ensures

pub returns-in-Value : goal.returns-in-Value
returns-in-Value c =
    if_ok _ _ _ (λ block emitted. value_body _ _ _ _ _ _ c.in-Value.is c.get.ensures emitted)
    c.value_block.ensures
