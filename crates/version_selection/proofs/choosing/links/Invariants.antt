use Rattle.std.proofs.Common.{◌≡◌, ◌++◌, drop, map}
use Rattle.version_selection.specs.Choices.{links_of}
use Rattle.version_selection.proofs.choosing.links.Given as goal

abbrev pub invariant-loop-node : goal.invariant-loop-node
invariant-loop-node l =
    l.links.items ++ map (links_of l.overrides l.nodes) (drop l.node-index l.nodes)
    ≡ map (links_of l.overrides l.nodes) l.nodes
