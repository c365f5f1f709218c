use Rattle.std.proofs.Common.{refl}
use Rattle.registry_index.specs.Finding.{first_file, registries_for}
use Rattle.registry_index.proofs.Readings.{AsksOver-stopped}
use Rattle.registry_index.proofs.registries.Registries.find.Goals as goal

pub returns-in-Err-clause-found : goal.returns-in-Err-clause-found
returns-in-Err-clause-found g c =
    AsksOver-stopped
    (λ look. first_file look c.args.key.now (registries_for c.args.only.now c.args.self.now.texts))
    (g.T.Tree.files c.args.tree.now) (g.T.Tree.faults c.args.tree.now)
    (g.T.Tree.failed c.args.tree.now) c.args.self.now.asked c.args.self.now.asked refl
