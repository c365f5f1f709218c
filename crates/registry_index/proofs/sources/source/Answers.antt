use Rattle.registry_index.specs.Sources.{base_or_read, kept_base, source_of, source_read}
use Rattle.registry_index.proofs.Readings.{AsksOver-failed, AsksOver-then}
use Rattle.registry_index.proofs.sources.source.Goals as goal

pub returns-in-Err : goal.returns-in-Err
unfolding source_of
returns-in-Err g c =
    AsksOver-failed
    (λ look. base_or_read look c.args.registry.now c.args.key.now
    (kept_base c.args.registry.now c.args.asked.now.bases))
    (λ look. source_read look c.args.registry.now c.args.key.now)
    (g.T.Tree.files c.args.tree.now) (g.T.Tree.files c.base_directory.new.tree)
    (g.T.Tree.faults c.args.tree.now) (g.T.Tree.faults c.base_directory.new.tree)
    (g.T.Tree.failed c.base_directory.new.tree) c.args.asked.now c.base_directory.new.asked
    c.in-Err.failure c.in-Err.ensures

pub returns : goal.returns
unfolding source_of
returns g c =
    AsksOver-then
    (λ look. base_or_read look c.args.registry.now c.args.key.now
    (kept_base c.args.registry.now c.args.asked.now.bases))
    (λ look. source_read look c.args.registry.now c.args.key.now)
    (g.T.Tree.files c.args.tree.now) (g.T.Tree.files c.base_directory.new.tree)
    (g.T.Tree.files c.source_below.new.tree) (g.T.Tree.faults c.args.tree.now)
    (g.T.Tree.faults c.base_directory.new.tree) (g.T.Tree.faults c.source_below.new.tree)
    (g.T.Tree.failed c.base_directory.new.tree) (g.T.Tree.failed c.source_below.new.tree)
    c.args.asked.now c.base_directory.new.asked c.source_below.new.asked c.in-Ok.base
    c.source_below.result c.in-Ok.ensures c.source_below.ensures
