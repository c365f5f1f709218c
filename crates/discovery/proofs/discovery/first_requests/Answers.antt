use Rattle.std.proofs.Common.{length, ap}
use Rattle.discovery.proofs.Discoveries.{Gives-first, Gives-room}
use Rattle.discovery.specs.Discovery.{requests_of}
use Rattle.discovery.proofs.discovery.first_requests.Goals as goal

pub returns-clause-root_known : goal.returns-clause-root_known
returns-clause-root_known c = Gives-first c.in_ok-known.known
    (requests_of c.args.root.now c.args.node.now) c.with_each.result
    (ap length c.in_ok-known.ensures) c.with_each.ensures

pub returns-clause-room : goal.returns-clause-room
returns-clause-room c = Gives-room c.in_ok-known.known
    (requests_of c.args.root.now c.args.node.now) c.with_each.result
    (ap length c.in_ok-known.ensures) c.with_each.ensures
