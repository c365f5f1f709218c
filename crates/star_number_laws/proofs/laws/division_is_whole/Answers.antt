use Rattle.star_number_laws.proofs.Divisions.{whole}
use Rattle.star_number_laws.proofs.laws.division_is_whole.Goals as goal

pub returns : goal.returns
returns c = whole
