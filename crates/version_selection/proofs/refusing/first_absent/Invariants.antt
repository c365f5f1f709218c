use Rattle.std.proofs.Common.{◌≡◌, drop}
use Rattle.overrides.specs.Overrides.{names_of}
use Rattle.version_selection.specs.Refusals.{first_absent}
use Rattle.version_selection.proofs.refusing.first_absent.Given as goal

abbrev pub invariant-loop-index : goal.invariant-loop-index
invariant-loop-index l =
    first_absent l.overrides l.nodes (drop l.index (names_of l.overrides))
    ≡ first_absent l.overrides l.nodes (names_of l.overrides)
