use Rattle.star_compiler.proofs.ExprArms.{as_expr}
use Rattle.star_compiler.proofs.Growing.{on_ok}
use Rattle.star_compiler.proofs.OtherPlaces.{other_place}
use Rattle.star_compiler.proofs.StmtArms.{augment_index, augment_name}
use Rattle.star_compiler.proofs.emitter.Emitter.augment.Goals as goal

pub returns-in_ok-expr-in-Name : goal.returns-in_ok-expr-in-Name
returns-in_ok-expr-in-Name c =
    on_ok _ _ _ (λ last. augment_name _ _ _ _ _ _ _ _ _ _ c.in-Name.is
    c.in_ok-put-in-Name.ensures c.in_ok-expr-in-Name.ensures last) c.put-in-Name.ensures

pub returns-in_ok-expr-in-Index-3 : goal.returns-in_ok-expr-in-Index-3
returns-in_ok-expr-in-Index-3 c =
    on_ok _ _ _ (λ last. augment_index _ _ _ _ _ _ _ _ _ _ _ _ _ _ _ _ c.in-Index.is
    c.in_ok-put-in-Index.ensures c.in_ok-expr-in-Index.ensures c.in_ok-put-in-Index-2.ensures
    (as_expr c.get.ensures c.in_ok-expr-in-Index-2.ensures)
    (as_expr c.get-in-Index.ensures c.in_ok-expr-in-Index-3.ensures) last)
    c.put-in-Index-3.ensures

pub returns-in_default : goal.returns-in_default
returns-in_default c =
    on_ok _ _ _ (λ last.
    other_place _ _ _ _ _ _ c.in_default.not-Name c.in_default.not-Index last)
    c.put-in_default.ensures
