use Rattle.std.proofs.Common.{ap, ◌∙◌}
use Rattle.star_core.specs.Dicts.{entry_of}
use Rattle.star_core.proofs.Entries.{lookup-entry_of}
use Rattle.star_core.proofs.dict.Dict.get.Goals as goal

pub returns : goal.returns
returns c =
    c.get.ensures.value ∙ lookup-entry_of c.args.content.now c.self.inside.pairs.entries
    ∙ ap (entry_of c.args.content.now) c.self.view_is
