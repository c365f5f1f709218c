use Rattle.std.proofs.Common.{◌≡◌, refl, subst, sym, true}
use Rattle.star_compiler.proofs.ClauseArms.{plain_call, shaped_call}
use Rattle.star_compiler.proofs.Growing.{on_ok}
use Rattle.star_compiler.proofs.emitter.Emitter.call.Goals as goal
use Rattle.star_meaning.specs.Arguments.{all_plain}

pub returns-then-all_plain : goal.returns-then-all_plain
returns-then-all_plain c =
    on_ok _ _ _ (λ last. plain_call _ _ _ _ _ _ c.in_ok-ways.ensures
    (subst (λ w. all_plain w ≡ true) c.as_slice.ensures (sym c.if-all_plain.ensures))
    refl last) c.put.ensures

pub returns : goal.returns
returns c =
    on_ok _ _ _ (λ last. shaped_call _ _ _ _ _ _ _ _ c.in_ok-ways.ensures
    c.in_ok-shape.ensures c.in_ok-put.ensures last) c.put-3.ensures
