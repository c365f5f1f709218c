use Rattle.std.proofs.Common.{ap, ◌∙◌}
use Rattle.bz_label.specs.Mappings.{found}
use Rattle.bz_label.proofs.MappedNames.{lookup-found}
use Rattle.bz_label.proofs.mapping.Mapping.get.Goals as goal

pub returns : goal.returns
returns c =
    c.get.ensures.value ∙ lookup-found c.args.apparent.now c.self.inside.names.entries
    ∙ ap (found c.args.apparent.now) c.self.view_is
