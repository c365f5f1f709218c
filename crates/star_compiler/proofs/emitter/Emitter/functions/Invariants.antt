use Rattle.std.proofs.Common.{◌≡◌, length, take}
use Rattle.star_compiler.proofs.emitter.Emitter.functions.Given as goal
use Rattle.star_compiler.specs.Emitted.{FnsEmitted}

abbrev pub invariant-loop-function : goal.invariant-loop-function
invariant-loop-function l =
    (length l.entries ≡ l.function-index)
    × FnsEmitted (take l.function-index l.functions) l.fn.self l.self l.entries
