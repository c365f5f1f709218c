use Rattle.star_sorting_laws.proofs.Tests.{pairs_stable}
use Rattle.star_sorting_laws.proofs.laws.sorting_is_stable.Goals as goal

pub returns : goal.returns
returns c = pairs_stable
