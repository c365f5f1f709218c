use Rattle.std.proofs.Common.{◌≤◌, drop, length}
use Rattle.star_compiler.specs.Emitted.{EmitsStmts}
use Rattle.star_compiler.proofs.emitter.Emitter.+statement.Given as goal

abbrev pub invariant-stmts-stmts : goal.invariant-stmts-stmts
invariant-stmts-stmts l =
    (l.left ≤ length l.stmts) × EmitsStmts (drop l.left l.stmts) l.fn.self l.self l.fn.out l.out

abbrev pub decreases-stmts-stmts : goal.decreases-stmts-stmts
decreases-stmts-stmts l = l.left
