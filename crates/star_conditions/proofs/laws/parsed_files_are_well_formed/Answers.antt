use Rattle.star_conditions.proofs.WellFormed.{resolved-well_formed}
use Rattle.star_conditions.proofs.laws.parsed_files_are_well_formed.Goals as goal

pub returns : goal.returns
returns c = resolved-well_formed
