use Rattle.star_compiler.proofs.Functions.{fn_emitted_of}
use Rattle.std.proofs.Common.{rules}
use Rattle.star_compiler.proofs.emitter.Emitter.function.Goals as goal

pub returns : goal.returns
returns c =
    fn_emitted_of _ _ _ _ _ _ _ _ _ c.items.ensures c.items-2.ensures c.items-3.ensures c.requires
    c.in_ok-defaults.ensures c.in_ok-block.ensures (search rules) c.in_ok-formals.ensures
    c.in_ok-optional_count.ensures
