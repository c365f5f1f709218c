use Rattle.star_conditions.proofs.Slots.{counted-stands}
use Rattle.star_conditions.proofs.laws.counted_variables_stand_there.Goals as goal

pub returns : goal.returns
returns c = counted-stands
