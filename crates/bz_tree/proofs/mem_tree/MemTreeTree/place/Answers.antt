use Rattle.bz_tree.specs.declared.tree.Found.TheVariants.{Absent}
use Rattle.bz_tree.proofs.Puts.{after_puts-append}
use Rattle.bz_tree.proofs.mem_tree.MemTreeTree.place.Goals as goal

pub returns-clause-placed : goal.returns-clause-placed
returns-clause-placed c there = rw (c.push.ensures.items, c.in-Ok.is, ← c.self.view_is)
    (after_puts-append c.self.inside.puts.items _ there Absent)
