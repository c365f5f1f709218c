use Rattle.std.proofs.Common.{ap, ◌∙◌}
use Rattle.star_core.specs.Dicts.{entries_of, entry_of, without_entry}
use Rattle.star_core.proofs.Entries.{entries_of-remove_entry, lookup-entry_of}
use Rattle.star_core.proofs.dict.Dict.remove.Goals as goal

pub returns-clause-pair : goal.returns-clause-pair
returns-clause-pair c =
    c.shift_remove.ensures.value ∙ lookup-entry_of c.args.content.now c.self.inside.pairs.entries
    ∙ ap (entry_of c.args.content.now) c.self.view_is

pub returns-clause-rest : goal.returns-clause-rest
returns-clause-rest c =
    ap entries_of c.shift_remove.ensures.entries
    ∙ entries_of-remove_entry c.args.content.now c.self.inside.pairs.entries
    ∙ ap (without_entry c.args.content.now) c.self.view_is
