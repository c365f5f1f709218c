use Rattle.star_conditions.proofs.Files.{resolved-functions}
use Rattle.star_conditions.proofs.laws.functions_are_mentioned.Goals as goal

pub returns : goal.returns
returns c = resolved-functions
