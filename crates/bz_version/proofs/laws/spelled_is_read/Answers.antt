use Rattle.bz_version.proofs.Readings.{spelled_is_read}
use Rattle.bz_version.proofs.laws.spelled_is_read.Goals as goal

pub returns : goal.returns
returns c = spelled_is_read
