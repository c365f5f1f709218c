use Rattle.bz_version.proofs.Readings.{fault_exact}
use Rattle.bz_version.proofs.laws.fault_is_first.Goals as goal

pub returns : goal.returns
returns c = fault_exact
