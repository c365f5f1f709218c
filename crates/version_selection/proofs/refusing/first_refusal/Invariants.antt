use Rattle.std.proofs.Common.{◌≡◌, List, [], drop}
use Rattle.bz_base.specs.declared.module_graph.GraphNode.{GraphNode}
use Rattle.version_selection.specs.Refusals.{first_refusal}
use Rattle.version_selection.specs.Tables.{HasFirsts}
use Rattle.version_selection.proofs.refusing.first_refusal.Given as goal

-- behind the nodes so far, of which the table has the firsts, the refusal is that of all
abbrev pub invariant-loop-index : goal.invariant-loop-index
invariant-loop-index l = (earlier : List GraphNode)
    × HasFirsts l.nodes earlier l.firsts.entries
    × (first_refusal l.overrides l.nodes earlier (drop l.index-index l.indexes)
    ≡ first_refusal l.overrides l.nodes [] l.indexes)
