use Rattle.star_core.proofs.GoodHeaps.{taken_good}
use Rattle.star_core.proofs.laws.taking_keeps_a_heap_good.Goals as goal

pub returns : goal.returns
returns c = taken_good
