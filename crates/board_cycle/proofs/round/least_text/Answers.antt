use Rattle.std.proofs.Common.{◌+◌, ◌∙◌, ap, drop, sym}
use Rattle.bz_text.proofs.ListWalks.{drop-next}
use Rattle.board_laws.specs.Rounds.{least}
use Rattle.board_cycle.proofs.Rounds.{least_next}
use Rattle.board_cycle.proofs.round.least_text.Goals as goal

pub loop-text-preserved : goal.loop-text-preserved
loop-text-preserved c =
    let others = c.args.others.now in
    let at = c.loop-text.text-index in
    ap (λ t. least t (drop (at + 1) others)) c.lesser-least.ensures
    ∙ sym (least_next c.loop-text.least.now c.text-item.result (drop (at + 1) others))
    ∙ ap (least c.loop-text.least.now) (sym (drop-next others at c.text-item.result c.loop-text-test.true c.text-item.is))
    ∙ c.loop-text.invariant
