use Rattle.std.proofs.Common.{sym}
use Rattle.star_turn.proofs.Following.{follows_step, parks_step, tells_step}
use Rattle.star_turn.proofs.turns.turn.Goals as goal

pub steps-preserved : goal.steps-preserved
steps-preserved g c =
    follows_step _ _ _ _ _ _ _ _ _ _ _ (sym c.if-not-goes_on.ensures) g.met.H.Host.lawful
    c.steps.invariant c.step-answer.ensures

pub returns-then-not-goes_on-clause-tells : goal.returns-then-not-goes_on-clause-tells
returns-then-not-goes_on-clause-tells g c =
    tells_step _ _ _ _ _ _ _ _ _ _ _ (sym c.if-not-goes_on.ensures) c.steps.invariant
    c.step-answer.ensures

pub returns-then-not-goes_on-clause-parks : goal.returns-then-not-goes_on-clause-parks
returns-then-not-goes_on-clause-parks g c =
    parks_step _ _ _ _ _ _ _ _ _ _ _ c.steps.invariant c.step-answer.ensures
