use Rattle.star_sorting_laws.proofs.ValuesSorted.{values_stable}
use Rattle.star_sorting_laws.proofs.laws.sorting_values_is_stable.Goals as goal

pub returns : goal.returns
returns c = values_stable
