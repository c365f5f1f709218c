use Rattle.star_core.proofs.GoodHeaps.{walked_good}
use Rattle.star_core.proofs.laws.walking_keeps_a_heap_good.Goals as goal

pub returns : goal.returns
returns c = walked_good
