use Rattle.std.proofs.Common.{◌≤◌, drop, length}
use Rattle.star_compiler.specs.Emitted.{EmitsExprs}
use Rattle.star_compiler.proofs.emitter.Emitter.defaults_block.Given as goal
use Rattle.star_meaning.specs.Parameters.{defaults_of}

abbrev pub invariant-params : goal.invariant-params
invariant-params l =
    (l.left ≤ length l.params)
    × EmitsExprs (defaults_of (drop l.left l.params)) l.fn.self l.self l.initial.out l.out

abbrev pub decreases-params : goal.decreases-params
decreases-params l = l.left
