use Rattle.std.proofs.Common.{◌≡◌, drop}
use Rattle.bz_tree.specs.declared.tree.Found.TheVariants.{Absent}
use Rattle.bz_tree.specs.MemTrees.{directory_after_each, after_puts, is_directory}
use Rattle.bz_tree.proofs.mem_tree.is_directory_at.Given as goal

abbrev pub invariant-loop-put : goal.invariant-loop-put
invariant-loop-put l = directory_after_each (drop l.put-index l.puts) l.path l.stands
    ≡ is_directory (after_puts l.puts l.path Absent)
