use Rattle.std.proofs.Common.{◌≡◌, Err, Ok, ap, sym, ◌∙◌, subst}
use Rattle.registry_index.specs.AskedFiles.{AsksOver, settled}
use Rattle.registry_index.specs.Finding.{file_found, file_in}
use Rattle.registry_index.specs.Registries.{FileOf, module_file}
use Rattle.registry_index.proofs.Readings.{AsksOver-given, AsksOver-missed, AsksOver-settled}
use Rattle.bz_tree.proofs.Readings.{run_of}
use Rattle.registry_index.proofs.finding.file_in.Goals as goal

pub returns-in-Ok-file_found : goal.returns-in-Ok-file_found
unfolding file_in
returns-in-Ok-file_found g c =
    let file : FileOf = record { registry = c.args.registry.now; below = c.as_str.result.now } in
    let same : file ≡ module_file c.args.registry.now c.args.key.now = ap
    (λ below. record { registry = c.args.registry.now; below = below })
    (c.as_str.ensures ∙ c.in_ok-below.ensures) in
    AsksOver-settled file (module_file c.args.registry.now c.args.key.now)
    (file_found c.args.registry.now c.args.key.now) (g.T.Tree.files c.args.tree.now)
    (g.T.Tree.files c.ask.new.tree) (g.T.Tree.faults c.args.tree.now)
    (g.T.Tree.faults c.ask.new.tree) (g.T.Tree.failed c.ask.new.tree) c.args.asked.now
    c.ask.new.self c.in-Ok.found (Ok c.in-Ok-file_found.file) same c.in-Ok.ensures
    (AsksOver-given (file_found c.args.registry.now c.args.key.now c.in-Ok.found)
    (g.T.Tree.files c.ask.new.tree) (g.T.Tree.faults c.ask.new.tree)
    (g.T.Tree.failed c.ask.new.tree) c.ask.new.self c.in-Ok-file_found.file
    c.in-Ok-file_found.ensures)

pub returns : goal.returns
unfolding file_in
returns g c =
    let file : FileOf = record { registry = c.args.registry.now; below = c.as_str.result.now } in
    let same : file ≡ module_file c.args.registry.now c.args.key.now = ap
    (λ below. record { registry = c.args.registry.now; below = below })
    (c.as_str.ensures ∙ c.in_ok-below.ensures) in
    let further = subst (λ failure. AsksOver
    (λ look. settled (file_found c.args.registry.now c.args.key.now c.in-Ok.found))
    (run_of (g.T.Tree.files c.ask.new.tree) (g.T.Tree.files c.ask.new.tree)
    (g.T.Tree.faults c.ask.new.tree) (g.T.Tree.faults c.ask.new.tree)
    (g.T.Tree.failed c.ask.new.tree)) c.ask.new.self c.ask.new.self (Err failure))
    (sym c.failure_of.ensures)
    (AsksOver-missed (file_found c.args.registry.now c.args.key.now c.in-Ok.found)
    (g.T.Tree.files c.ask.new.tree) (g.T.Tree.faults c.ask.new.tree)
    (g.T.Tree.failed c.ask.new.tree) c.ask.new.self c.in-Err-file_found.miss
    c.in-Err-file_found.ensures) in
    AsksOver-settled file (module_file c.args.registry.now c.args.key.now)
    (file_found c.args.registry.now c.args.key.now) (g.T.Tree.files c.args.tree.now)
    (g.T.Tree.files c.ask.new.tree) (g.T.Tree.faults c.args.tree.now)
    (g.T.Tree.faults c.ask.new.tree) (g.T.Tree.failed c.ask.new.tree) c.args.asked.now
    c.ask.new.self c.in-Ok.found (Err c.failure_of.result) same c.in-Ok.ensures further
