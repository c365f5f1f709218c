use Rattle.std.proofs.Common.{◌≡◌, map, take}
use Rattle.version_selection.specs.Selection.{chosen_of}
use Rattle.version_selection.proofs.selecting.modules_of.Given as goal

abbrev pub invariant-loop-index : goal.invariant-loop-index
invariant-loop-index l = l.modules.items
    ≡ map (chosen_of l.links l.indexes.keys) (take l.index-index l.indexes.keys)
