use Rattle.bz_version.proofs.Readings.{read_is_spelled}
use Rattle.bz_version.proofs.laws.read_is_spelled.Goals as goal

pub returns : goal.returns
returns c = read_is_spelled
