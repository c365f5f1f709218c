use Rattle.star_core.proofs.GoodHeaps.{made_good}
use Rattle.star_core.proofs.laws.making_keeps_a_heap_good.Goals as goal

pub returns : goal.returns
returns c = made_good
