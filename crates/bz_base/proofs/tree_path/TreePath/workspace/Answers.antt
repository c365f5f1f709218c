use Rattle.std.proofs.Common.{◌∙◌}
use Rattle.bz_base.proofs.NormalPaths.{nothing-normal}
use Rattle.bz_base.proofs.tree_path.TreePath.workspace.Goals as goal

pub invariant_of-result : goal.invariant_of-result
invariant_of-result c = nothing-normal _ (c.of_string.ensures ∙ c.new.ensures.bytes)
