use Rattle.std.proofs.Common.{subst}
use Rattle.bz_label.specs.Mappings.{NamesDiffer}
use Rattle.bz_label.proofs.MappedNames.{NamesDiffer-pairs_of}
use Rattle.bz_label.proofs.mapping.Mapping.len.Goals as goal

pub returns-clause-differ : goal.returns-clause-differ
returns-clause-differ c = subst NamesDiffer c.self.view_is
    (NamesDiffer-pairs_of c.self.inside.names.entries c.len.ensures.unique)
