use Rattle.star_conditions.proofs.FilesFormed.{resolved-formed}
use Rattle.star_conditions.proofs.laws.no_refused_form_is_there.Goals as goal

pub returns : goal.returns
returns c = resolved-formed
