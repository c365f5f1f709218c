use Rattle.std.proofs.Common.{◌≡◌, ◌++◌, drop, map}
use Rattle.overrides.specs.Overrides.{kinds_of, named_kind}
use Rattle.overrides.proofs.root_overrides.kinds.Given as goal

abbrev pub invariant-loop-one : goal.invariant-loop-one
invariant-loop-one l = kinds_of l.kinds.entries ++ map named_kind (drop l.one-index l.overrides)
    ≡ map named_kind l.overrides
