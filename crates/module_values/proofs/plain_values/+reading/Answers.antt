use Rattle.std.proofs.Common.{sym, subst}
use Rattle.bz_text.specs.Answers.{Gives}
use Rattle.module_values.proofs.Layers.{plain_within_layer}
use Rattle.module_values.proofs.plain_values.+reading.Goals as goal

pub value_within-returns : goal.value_within-returns
value_within-returns t c =
    subst (λ r. Gives r c.layer_within.result)
    (sym (plain_within_layer c.args.depth c.args.heap.now c.args.value.now))
    c.layer_within.ensures
