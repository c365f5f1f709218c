use Rattle.star_dialects.specs.ExtensionFiles.{target_places}
use Rattle.star_dialects.proofs.NamesAfter.{names_after-next, names_after-stopped}
use Rattle.star_dialects.proofs.extension_files.+targets.Goals as goal

pub with_targets-turns-preserved : goal.with_targets-turns-preserved
with_targets-turns-preserved t c = names_after-next c.turns.names c.in-Ok.names target_places
    c.args.targets.now c.turns.target-index c.target-item.result c.turns-test.true c.target-item.is
    c.turns.invariant c.in-Ok.ensures

pub with_targets-returns-in-Err : goal.with_targets-returns-in-Err
with_targets-returns-in-Err t c = names_after-stopped c.turns.names target_places c.args.targets.now
    c.turns.target-index c.target-item.result c.in-Err.miss c.turns-test.true c.target-item.is
    c.turns.invariant c.in-Err.ensures
