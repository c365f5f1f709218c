use Rattle.discovery.proofs.DiscoveryLaws.{discovered-least}
use Rattle.discovery.proofs.laws.discovered_is_least.Goals as goal

pub returns : goal.returns
returns c = discovered-least
