use Rattle.std.proofs.Common.{◌≡◌, Ok, Err, codes}
use Rattle.bz_base.specs.Paths.{joined}
use Rattle.mod_command.proofs.RootPaths.{joined-root_file}
use Rattle.mod_command.proofs.root_file.root_path.Goals as goal

pub returns-in-Ok : goal.returns-in-Ok
returns-in-Ok c =
    let there = joined-root_file c.workspace.result c.workspace.ensures in
    let path : joined c.workspace.result (codes "MODULE.bazel")
    ≡ Ok c.in-Ok.path = c.in-Ok.ensures in
    cc

pub unreachable-requires : goal.unreachable-requires
unreachable-requires c =
    let there = joined-root_file c.workspace.result c.workspace.ensures in
    let bad : joined c.workspace.result (codes "MODULE.bazel")
    ≡ Err c.in-Err-Because.field-0-0 = rw c.in-Err-Because.field-0-is at
    c.in-Err-Because.ensures in
    cc
