use Rattle.star_number_laws.proofs.Divisions.{left_small}
use Rattle.star_number_laws.proofs.laws.remainder_is_small.Goals as goal

pub returns : goal.returns
returns c = left_small
