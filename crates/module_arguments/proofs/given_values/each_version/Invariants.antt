use Rattle.std.proofs.Common.{◌≡◌, [], Ok, drop}
use Rattle.module_arguments.specs.GivenValues.{versions_after}
use Rattle.module_arguments.proofs.given_values.each_version.Given as goal

abbrev pub invariant-reading : goal.invariant-reading
invariant-reading l =
    versions_after (Ok l.versions.items) (drop l.text-index l.texts)
    ≡ versions_after (Ok []) l.texts
