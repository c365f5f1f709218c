use Rattle.star_conditions.proofs.Files.{resolved-indexes}
use Rattle.star_conditions.proofs.laws.indexes_are_there.Goals as goal

pub returns : goal.returns
returns c = resolved-indexes
