use Rattle.star_core.proofs.GoodHeaps.{literal_good}
use Rattle.star_core.proofs.laws.literals_keep_a_heap_good.Goals as goal

pub returns : goal.returns
returns c = literal_good
