use Rattle.std.proofs.Common.{◌≡◌, drop, map}
use Rattle.star_dialects.specs.ExtensionFiles.{all_places, target_places, names_after}
use Rattle.star_dialects.proofs.extension_files.+targets.Given as goal

-- what is left decides
abbrev pub invariant-with_targets-turns : goal.invariant-with_targets-turns
invariant-with_targets-turns l =
    names_after l.fn.names (all_places (map target_places l.targets))
    ≡ names_after l.names (all_places (map target_places (drop l.target-index l.targets)))
