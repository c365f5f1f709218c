use Rattle.std.proofs.Common.{subst}
use Rattle.star_core.specs.Dicts.{KeysDiffer}
use Rattle.star_core.proofs.Entries.{KeysDiffer-entries_of}
use Rattle.star_core.proofs.dict.Dict.len.Goals as goal

pub returns-clause-differ : goal.returns-clause-differ
returns-clause-differ c = subst KeysDiffer c.self.view_is
    (KeysDiffer-entries_of c.self.inside.pairs.entries c.len.ensures.unique)
