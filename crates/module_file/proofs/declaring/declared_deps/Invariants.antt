use Rattle.std.proofs.Common.{◌≡◌, ◌++◌, ◌+◌, drop}
use Rattle.module_file.specs.ModuleFiles.{deps_from}
use Rattle.module_file.proofs.declaring.declared_deps.Given as goal

-- the dependencies so far and those of the lines that are left
abbrev pub invariant-loop-line : goal.invariant-loop-line
invariant-loop-line l =
    (l.number ≡ l.line-index + 1)
    × (l.deps.items ++ deps_from l.number (drop l.line-index l.lines) ≡ deps_from 1 l.lines)
