use Rattle.std.proofs.Common.{◌≡◌, drop}
use Rattle.registry_index.specs.Sources.{kept_base}
use Rattle.registry_index.proofs.asked_files.kept.Given as goal

abbrev pub invariant-loop-base : goal.invariant-loop-base
invariant-loop-base l =
    kept_base l.registry (drop l.base-index l.bases) ≡ kept_base l.registry l.bases
