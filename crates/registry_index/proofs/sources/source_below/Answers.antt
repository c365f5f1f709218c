use Rattle.std.proofs.Common.{◌≡◌, Err, Ok, ap, sym, ◌∙◌, subst}
use Rattle.registry_index.specs.AskedFiles.{AsksOver, settled}
use Rattle.registry_index.specs.Sources.{source_found, source_read}
use Rattle.registry_index.specs.Registries.{FileOf, source_file}
use Rattle.registry_index.proofs.Readings.{AsksOver-given, AsksOver-missed, AsksOver-settled}
use Rattle.bz_tree.proofs.Readings.{run_of}
use Rattle.registry_index.proofs.sources.source_below.Goals as goal

pub returns-in-Ok-source_found : goal.returns-in-Ok-source_found
unfolding source_read
returns-in-Ok-source_found g c =
    let file : FileOf = record { registry = c.args.registry.now; below = c.as_str.result.now } in
    let same : file ≡ source_file c.args.registry.now c.args.key.now = ap
    (λ below. record { registry = c.args.registry.now; below = below })
    (c.as_str.ensures ∙ c.in_ok-below.ensures) in
    AsksOver-settled file (source_file c.args.registry.now c.args.key.now)
    (source_found c.args.registry.now c.args.key.now c.args.base.now)
    (g.T.Tree.files c.args.tree.now)
    (g.T.Tree.files c.ask.new.tree) (g.T.Tree.faults c.args.tree.now)
    (g.T.Tree.faults c.ask.new.tree) (g.T.Tree.failed c.ask.new.tree) c.args.asked.now
    c.ask.new.self c.in-Ok.found (Ok c.in-Ok-source_found.source) same c.in-Ok.ensures
    (AsksOver-given (source_found c.args.registry.now c.args.key.now c.args.base.now c.in-Ok.found)
    (g.T.Tree.files c.ask.new.tree) (g.T.Tree.faults c.ask.new.tree)
    (g.T.Tree.failed c.ask.new.tree) c.ask.new.self c.in-Ok-source_found.source
    c.in-Ok-source_found.ensures)

pub returns : goal.returns
unfolding source_read
returns g c =
    let file : FileOf = record { registry = c.args.registry.now; below = c.as_str.result.now } in
    let same : file ≡ source_file c.args.registry.now c.args.key.now = ap
    (λ below. record { registry = c.args.registry.now; below = below })
    (c.as_str.ensures ∙ c.in_ok-below.ensures) in
    let further = subst (λ failure. AsksOver
    (λ look. settled
    (source_found c.args.registry.now c.args.key.now c.args.base.now c.in-Ok.found))
    (run_of (g.T.Tree.files c.ask.new.tree) (g.T.Tree.files c.ask.new.tree)
    (g.T.Tree.faults c.ask.new.tree) (g.T.Tree.faults c.ask.new.tree)
    (g.T.Tree.failed c.ask.new.tree)) c.ask.new.self c.ask.new.self (Err failure))
    (sym c.failure_of.ensures)
    (AsksOver-missed (source_found c.args.registry.now c.args.key.now c.args.base.now c.in-Ok.found)
    (g.T.Tree.files c.ask.new.tree) (g.T.Tree.faults c.ask.new.tree)
    (g.T.Tree.failed c.ask.new.tree) c.ask.new.self c.in-Err-source_found.miss
    c.in-Err-source_found.ensures) in
    AsksOver-settled file (source_file c.args.registry.now c.args.key.now)
    (source_found c.args.registry.now c.args.key.now c.args.base.now)
    (g.T.Tree.files c.args.tree.now)
    (g.T.Tree.files c.ask.new.tree) (g.T.Tree.faults c.args.tree.now)
    (g.T.Tree.faults c.ask.new.tree) (g.T.Tree.failed c.ask.new.tree) c.args.asked.now
    c.ask.new.self c.in-Ok.found (Err c.failure_of.result) same c.in-Ok.ensures further
