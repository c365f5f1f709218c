use Rattle.bz_version.proofs.Differences.{below_at_first_difference}
use Rattle.bz_version.proofs.laws.first_difference_decides.Goals as goal

pub returns : goal.returns
returns c = below_at_first_difference
