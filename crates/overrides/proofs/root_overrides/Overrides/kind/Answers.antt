use Rattle.std.proofs.Common.{ap, ◌∙◌}
use Rattle.overrides.specs.Overrides.{kind_of}
use Rattle.overrides.proofs.KindLists.{lookup-kind_of}
use Rattle.overrides.proofs.root_overrides.Overrides.kind.Goals as goal

pub returns : goal.returns
returns c =
    c.get.ensures.value ∙ lookup-kind_of c.args.name.now c.self.inside.kinds.entries
    ∙ ap (λ overrides. kind_of c.args.name.now overrides.kinds) c.self.view_is
