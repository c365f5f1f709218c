use Rattle.std.proofs.Common.{ap, ◌∙◌}
use Rattle.bz_base.specs.Paths.{spelled}
use Rattle.bz_base.proofs.NormalPaths.{walked-normal}
use Rattle.bz_base.proofs.tree_path.resolve.Goals as goal

pub invariant_of-result : goal.invariant_of-result
invariant_of-result c = walked-normal c.args.rooted c.args.path.now c.args.text.now _ _ _ _
    c.new.ensures c.in_ok-names.ensures c.in_ok-names-2.ensures
    (c.in_ok-text.ensures ∙ ap (spelled c.args.rooted) c.items.ensures)
