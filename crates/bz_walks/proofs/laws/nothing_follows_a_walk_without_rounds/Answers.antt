use Rattle.bz_walks.proofs.Rounds.{rounds-alone}
use Rattle.bz_walks.proofs.laws.nothing_follows_a_walk_without_rounds.Goals as goal

pub returns : goal.returns
returns g c = rounds-alone
