use Rattle.star_core.proofs.GoodHeaps.{frozen_good}
use Rattle.star_core.proofs.laws.freezing_keeps_a_heap_good.Goals as goal

pub returns : goal.returns
returns c = frozen_good
