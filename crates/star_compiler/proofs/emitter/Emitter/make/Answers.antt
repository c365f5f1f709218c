use Rattle.std.proofs.Common.{sym}
use Rattle.star_compiler.proofs.ClauseArms.{made, not_made}
use Rattle.star_compiler.proofs.Growing.{on_ok}
use Rattle.star_compiler.proofs.emitter.Emitter.make.Goals as goal

pub returns-then-is_before : goal.returns-then-is_before
returns-then-is_before c =
    on_ok _ _ _ (λ last. not_made _ _ _ _ (sym c.if-is_before.ensures) last) c.put.ensures

pub returns : goal.returns
returns c =
    on_ok _ _ _ (λ last. made _ _ _ _ _ (sym c.if-is_before.ensures) c.in_ok-put.ensures last)
    c.put-3.ensures
