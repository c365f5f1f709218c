use Rattle.std.proofs.Common.{◌≡◌, length}
use Rattle.star_dialects.specs.ExtensionFiles.{body_places, names_after}
use Rattle.star_dialects.proofs.extension_files.with_statements.Given as goal

-- what is left decides
abbrev pub invariant-turns : goal.invariant-turns
invariant-turns l = names_after l.fn.names (body_places l.fn.body)
    ≡ names_after l.names (body_places l.rest)

abbrev pub decreases-turns : goal.decreases-turns
decreases-turns l = length l.rest
