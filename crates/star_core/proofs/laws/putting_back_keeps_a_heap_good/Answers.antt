use Rattle.star_core.proofs.GoodHeaps.{given_good}
use Rattle.star_core.proofs.laws.putting_back_keeps_a_heap_good.Goals as goal

pub returns : goal.returns
returns c = given_good
