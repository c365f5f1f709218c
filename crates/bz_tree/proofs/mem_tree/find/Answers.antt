use Rattle.bz_tree.proofs.Puts.{found-readable}
use Rattle.bz_tree.proofs.mem_tree.find.Goals as goal

pub returns-clause-readable : goal.returns-clause-readable
returns-clause-readable c = found-readable c.args.puts.now c.args.path.now c.loop-put.found
    c.loop-put.put-index c.loop-put-test.false c.loop-put.invariant
