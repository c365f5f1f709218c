use Rattle.std.proofs.Common.{◌≡◌, Ok, drop, map}
use Rattle.discovery.specs.Discovery.{request_of, requests_of, discovery_rules, file_text}
use Rattle.bz_walks.specs.Walks.{with_requests}
use Rattle.discovery.proofs.discovery.with_each.Given as goal

-- the requests so far with those of the dependencies that are left
abbrev pub invariant-loop-dep : goal.invariant-loop-dep
invariant-loop-dep l =
    with_requests discovery_rules (Ok l.known)
    (map (request_of l.root (file_text l.node)) (drop l.dep-index l.node.decl.deps))
    ≡ with_requests discovery_rules (Ok l.initial.known) (requests_of l.root l.node)
