use Rattle.std.proofs.Common.{◌≡◌, ◌++◌, drop, map}
use Rattle.discovery.specs.Discovery.{effective}
use Rattle.discovery.proofs.discovery.needs.Given as goal

abbrev pub invariant-loop-dep : goal.invariant-loop-dep
invariant-loop-dep l = l.keys.items ++ map (effective l.root) (drop l.dep-index l.deps)
    ≡ map (effective l.root) l.deps
