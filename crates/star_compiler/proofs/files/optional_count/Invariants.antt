use Rattle.std.proofs.Common.{◌≡◌, ◌+◌, drop, length}
use Rattle.star_meaning.specs.Parameters.{defaults_of}
use Rattle.star_compiler.proofs.files.optional_count.Given as goal

abbrev pub invariant-counting : goal.invariant-counting
invariant-counting l =
    (l.count + length (defaults_of (drop l.param-index l.params))
    ≡ length (defaults_of l.params))
