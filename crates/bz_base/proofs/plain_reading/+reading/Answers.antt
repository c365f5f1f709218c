use Rattle.std.proofs.Common.{sym, subst}
use Rattle.serde_json.specs.View.{view}
use Rattle.bz_text.specs.Answers.{Gives}
use Rattle.bz_base.proofs.PlainLayers.{plain_within_layer}
use Rattle.bz_base.proofs.plain_reading.+reading.Goals as goal

pub value_within-returns : goal.value_within-returns
value_within-returns t c =
    subst (λ r. Gives r c.level_within.result)
    (sym (plain_within_layer c.args.depth (view c.args.value.now))) c.level_within.ensures
