use Rattle.std.proofs.Common.{refl}
use Rattle.star_compiler.proofs.Functions.{defaults_block}
use Rattle.star_compiler.proofs.emitter.Emitter.defaults.Goals as goal

pub returns : goal.returns
returns c =
    defaults_block _ _ _ _ _ _ _ _ c.requires c.in_ok-least.ensures refl c.in_ok-block.ensures refl
