use Rattle.std.proofs.Common.{◌≡◌, drop}
use Rattle.version_selection.specs.Refusals.{first_missing}
use Rattle.version_selection.proofs.refusing.first_missing.Given as goal

abbrev pub invariant-loop-version : goal.invariant-loop-version
invariant-loop-version l =
    first_missing l.nodes l.name (drop l.version-index l.versions)
    ≡ first_missing l.nodes l.name l.versions
