use Rattle.bz_tree.specs.declared.tree.Found.TheVariants.{Absent}
use Rattle.bz_tree.proofs.Puts.{is_file-puts}
use Rattle.bz_tree.proofs.mem_tree.is_file_at.Goals as goal

pub loop-put-init : goal.loop-put-init
loop-put-init c = is_file-puts c.args.puts.now c.args.path.now Absent
