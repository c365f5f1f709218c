use Rattle.star_sorting_laws.proofs.ValuesSorted.{values_in_order}
use Rattle.star_sorting_laws.proofs.laws.sorted_values_are_in_order.Goals as goal

pub returns : goal.returns
returns c = values_in_order
