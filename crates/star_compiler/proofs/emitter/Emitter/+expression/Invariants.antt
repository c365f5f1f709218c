use Rattle.std.proofs.Common.{◌<◌, ◌≤◌, drop, length}
use Rattle.star_compiler.proofs.ClauseArms.{Written}
use Rattle.star_compiler.specs.Emitted.{EmitsArgs, EmitsExprs, EmitsPairs, EmitsTargets}
use Rattle.star_compiler.proofs.emitter.Emitter.+expression.Given as goal

abbrev pub invariant-args-args-2 : goal.invariant-args-args-2
invariant-args-args-2 l =
    (l.left ≤ length l.args) × EmitsArgs (drop l.left l.args) l.fn.self l.self l.fn.out l.out

abbrev pub decreases-args-args-2 : goal.decreases-args-args-2
decreases-args-args-2 l = l.left

abbrev pub invariant-exprs-exprs : goal.invariant-exprs-exprs
invariant-exprs-exprs l =
    (l.left ≤ length l.exprs) × EmitsExprs (drop l.left l.exprs) l.fn.self l.self l.fn.out l.out

abbrev pub decreases-exprs-exprs : goal.decreases-exprs-exprs
decreases-exprs-exprs l = l.left

abbrev pub invariant-pairs-pairs : goal.invariant-pairs-pairs
invariant-pairs-pairs l =
    (l.left ≤ length l.pairs) × EmitsPairs (drop l.left l.pairs) l.fn.self l.self l.fn.out l.out

abbrev pub decreases-pairs-pairs : goal.decreases-pairs-pairs
decreases-pairs-pairs l = l.left

abbrev pub invariant-comprehension-clauses : goal.invariant-comprehension-clauses
invariant-comprehension-clauses l =
    (l.left ≤ length l.clauses)
    × (0 < length l.clauses → 0 < l.left)
    × Written l.clauses l.left l.fn.fill l.code l.fn.self l.self

abbrev pub decreases-comprehension-clauses : goal.decreases-comprehension-clauses
decreases-comprehension-clauses l = l.left

abbrev pub invariant-targets-targets : goal.invariant-targets-targets
invariant-targets-targets l =
    (l.left ≤ length l.targets)
    × EmitsTargets (drop l.left l.targets) l.fn.self l.self l.fn.out l.out

abbrev pub decreases-targets-targets : goal.decreases-targets-targets
decreases-targets-targets l = l.left
