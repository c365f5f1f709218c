use Rattle.std.proofs.Common.{◌≡◌, map, take}
use Rattle.selection.specs.Selection.{chosen_of}
use Rattle.selection.proofs.selection.modules.Given as goal

abbrev pub invariant-loop-index : goal.invariant-loop-index
invariant-loop-index l = l.modules.items
    ≡ map (chosen_of l.nodes l.indexes.keys) (take l.index-index l.indexes.keys)
