use Rattle.star_compiler.proofs.ExprArms.{absent_arm, there_arm}
use Rattle.star_compiler.proofs.Growing.{on_ok}
use Rattle.star_compiler.proofs.emitter.Emitter.returned.Goals as goal

pub returns-in-None : goal.returns-in-None
returns-in-None c = on_ok _ _ _ (λ last. absent_arm _ _ _ _ c.in-None.is last) c.put.ensures

pub returns-in-Some : goal.returns-in-Some
returns-in-Some c = on_ok _ _ _ (λ last. there_arm _ _ _ _ _ _ c.in-Some.is last) c.expr.ensures
