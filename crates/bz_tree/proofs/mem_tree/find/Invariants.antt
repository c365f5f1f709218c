use Rattle.std.proofs.Common.{◌≡◌, drop}
use Rattle.bz_tree.specs.declared.tree.Found.TheVariants.{Absent}
use Rattle.bz_tree.specs.MemTrees.{after_puts}
use Rattle.bz_tree.proofs.mem_tree.find.Given as goal

-- what is found so far and the puts that are left make what all puts make
abbrev pub invariant-loop-put : goal.invariant-loop-put
invariant-loop-put l = after_puts (drop l.put-index l.puts) l.path l.found
    ≡ after_puts l.puts l.path Absent
