use Rattle.star_conditions.proofs.Files.{resolved-variables}
use Rattle.star_conditions.proofs.laws.variables_are_counted.Goals as goal

pub returns : goal.returns
returns c = resolved-variables
