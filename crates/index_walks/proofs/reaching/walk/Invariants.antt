use Rattle.std.proofs.Common.{◌≡◌, ◌-◌, length}
use Rattle.index_walks.proofs.Reachings.{AreIndexes, followed}
use Rattle.index_walks.specs.Reaching.{indexes_walked}
use Rattle.index_walks.proofs.reaching.walk.Given as goal

-- the walk from here on is the whole walk
abbrev pub invariant-walk : goal.invariant-walk
invariant-walk l = (followed l.links l.indexes.keys l.next ≡ indexes_walked l.links)
    × AreIndexes (length l.links) l.indexes.keys

abbrev pub decreases-walk : goal.decreases-walk
decreases-walk l = length l.links - l.next
