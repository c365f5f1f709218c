use Rattle.std.proofs.Common.{◌≡◌, drop}
use Rattle.module_file.specs.ModuleFiles.{key_declared}
use Rattle.module_file.proofs.declaring.declared_key.Given as goal

abbrev pub invariant-loop-line : goal.invariant-loop-line
invariant-loop-line l = key_declared (drop l.line-index l.lines) ≡ key_declared l.lines
