use Rattle.star_compiler.proofs.Functions.{some_default}
use Rattle.star_compiler.proofs.Growing.{on_ok}
use Rattle.star_compiler.proofs.emitter.Emitter.default.Goals as goal

pub returns-in-Optional : goal.returns-in-Optional
returns-in-Optional c =
    on_ok _ _ _ (λ emitted. some_default _ _ _ _ _ _ _ c.in-Optional.is emitted) c.expr.ensures
