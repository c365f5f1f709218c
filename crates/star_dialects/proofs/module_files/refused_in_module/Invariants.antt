use Rattle.std.proofs.Common.{◌≡◌, length}
use Rattle.star_dialects.specs.ModuleFiles.{first_in_module}
use Rattle.star_dialects.proofs.module_files.refused_in_module.Given as goal

abbrev pub invariant-turns : goal.invariant-turns
invariant-turns l = first_in_module l.fn.body ≡ first_in_module l.rest

abbrev pub decreases-turns : goal.decreases-turns
decreases-turns l = length l.rest
