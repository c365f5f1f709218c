use Rattle.std.proofs.Common.{◌≡◌, length, map}
use Rattle.star_dialects.specs.ExtensionFiles.{load_place, names_after}
use Rattle.star_dialects.proofs.extension_files.with_loaded.Given as goal

-- what is left decides
abbrev pub invariant-turns : goal.invariant-turns
invariant-turns l = names_after l.fn.names (map load_place l.fn.loaded)
    ≡ names_after l.names (map load_place l.rest)

abbrev pub decreases-turns : goal.decreases-turns
decreases-turns l = length l.rest
