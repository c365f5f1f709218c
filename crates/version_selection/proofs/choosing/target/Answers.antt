use Rattle.std.proofs.Common.{◌∙◌}
use Rattle.version_selection.proofs.Heights.{target-next}
use Rattle.version_selection.proofs.choosing.target.Goals as goal

pub loop-index-preserved : goal.loop-index-preserved
loop-index-preserved c = c.next_target-least.ensures
    ∙ target-next c.args.versions.now c.args.node.now c.args.nodes.now c.loop-index.index
    c.index-nodes-index.result c.loop-index.least c.loop-index-test.true c.index-nodes-index.is
    c.loop-index.invariant
