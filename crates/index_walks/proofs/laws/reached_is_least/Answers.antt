use Rattle.index_walks.proofs.ReachingLaws.{reached-least}
use Rattle.index_walks.proofs.laws.reached_is_least.Goals as goal

pub returns : goal.returns
returns c = reached-least
