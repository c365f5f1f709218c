use Rattle.bz_walks.proofs.WalkOrders.{levels-by_level}
use Rattle.bz_walks.proofs.laws.each_level_follows_the_one_before.Goals as goal

pub returns : goal.returns
returns g c = levels-by_level
