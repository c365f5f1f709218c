use Rattle.star_conditions.proofs.FilesNested.{resolved-nested}
use Rattle.star_conditions.proofs.laws.no_tree_is_too_deep.Goals as goal

pub returns : goal.returns
returns c = resolved-nested
