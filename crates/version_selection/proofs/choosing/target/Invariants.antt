use Rattle.std.proofs.Common.{◌≡◌, take}
use Rattle.version_selection.specs.Choices.{target}
use Rattle.version_selection.proofs.choosing.target.Given as goal

-- the least among the nodes so far
abbrev pub invariant-loop-index : goal.invariant-loop-index
invariant-loop-index l = l.least ≡ target l.versions l.node (take l.index l.nodes)
