use Rattle.module_laws.proofs.KeptReaders.{begun_is_kept}
use Rattle.module_laws.proofs.laws.begun_hosts_are_kept.Goals as goal

pub returns : goal.returns
returns c = λ file role. begun_is_kept role
