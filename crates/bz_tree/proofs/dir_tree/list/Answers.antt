use Rattle.bz_tree.proofs.Ascending.{sorted-ascending}
use Rattle.bz_tree.proofs.dir_tree.list.Goals as goal

pub returns : goal.returns
returns g c = rw c.in_ok-texts_of.ensures (sorted-ascending _ c.in_ok-sort.ensures.sorted)
