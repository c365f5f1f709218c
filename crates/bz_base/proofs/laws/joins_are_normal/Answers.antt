use Rattle.bz_base.proofs.NormalPaths.{joined-normal}
use Rattle.bz_base.proofs.laws.joins_are_normal.Goals as goal

pub returns : goal.returns
returns c = joined-normal
