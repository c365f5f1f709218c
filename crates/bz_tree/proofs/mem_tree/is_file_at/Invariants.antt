use Rattle.std.proofs.Common.{◌≡◌, drop}
use Rattle.bz_tree.specs.declared.tree.Found.TheVariants.{Absent}
use Rattle.bz_tree.specs.MemTrees.{file_after_each, after_puts, is_file}
use Rattle.bz_tree.proofs.mem_tree.is_file_at.Given as goal

abbrev pub invariant-loop-put : goal.invariant-loop-put
invariant-loop-put l = file_after_each (drop l.put-index l.puts) l.path l.stands
    ≡ is_file (after_puts l.puts l.path Absent)
