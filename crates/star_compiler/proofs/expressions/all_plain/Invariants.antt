use Rattle.std.proofs.Common.{◌≡◌, drop}
use Rattle.star_meaning.specs.Arguments.{all_plain}
use Rattle.star_compiler.proofs.expressions.all_plain.Given as goal

abbrev pub invariant-loop-way : goal.invariant-loop-way
invariant-loop-way l = all_plain (drop l.way-index l.ways) ≡ all_plain l.ways
