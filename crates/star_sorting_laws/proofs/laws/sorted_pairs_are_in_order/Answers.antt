use Rattle.star_sorting_laws.proofs.Tests.{pairs_in_order}
use Rattle.star_sorting_laws.proofs.laws.sorted_pairs_are_in_order.Goals as goal

pub returns : goal.returns
returns c = pairs_in_order
