use Rattle.std.proofs.Common.{◌≡◌, ◌-◌, length}
use Rattle.selection.proofs.SelectionWalks.{AreIndexes, reached}
use Rattle.selection.specs.Selection.{indexes_walked}
use Rattle.selection.proofs.selection.indexes.Given as goal

-- the walk from here on is the whole walk
abbrev pub invariant-walk : goal.invariant-walk
invariant-walk l = (reached l.nodes l.indexes.keys l.next ≡ indexes_walked l.nodes)
    × AreIndexes (length l.nodes) l.indexes.keys

abbrev pub decreases-walk : goal.decreases-walk
decreases-walk l = length l.nodes - l.next
