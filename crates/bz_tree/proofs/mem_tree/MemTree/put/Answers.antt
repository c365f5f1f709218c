use Rattle.bz_tree.proofs.Puts.{put-stands}
use Rattle.bz_tree.proofs.mem_tree.MemTree.put.Goals as goal

pub returns-clause-stands : goal.returns-clause-stands
returns-clause-stands c = put-stands c.add.result c.args.self.now c.add.new.self c.args.path _ _
    c.in_ok-bytes.ensures c.add.ensures.put
