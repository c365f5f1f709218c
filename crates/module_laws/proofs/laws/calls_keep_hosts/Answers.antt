use Rattle.module_laws.proofs.KeptHosts.{calls_keep}
use Rattle.module_laws.proofs.laws.calls_keep_hosts.Goals as goal

pub returns : goal.returns
returns c = calls_keep
