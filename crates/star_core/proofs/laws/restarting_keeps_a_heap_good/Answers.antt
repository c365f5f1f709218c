use Rattle.star_core.proofs.GoodHeaps.{restarted_good}
use Rattle.star_core.proofs.laws.restarting_keeps_a_heap_good.Goals as goal

pub returns : goal.returns
returns c = restarted_good
