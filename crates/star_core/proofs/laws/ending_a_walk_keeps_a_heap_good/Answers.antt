use Rattle.star_core.proofs.GoodHeaps.{unwalked_good}
use Rattle.star_core.proofs.laws.ending_a_walk_keeps_a_heap_good.Goals as goal

pub returns : goal.returns
returns c = unwalked_good
