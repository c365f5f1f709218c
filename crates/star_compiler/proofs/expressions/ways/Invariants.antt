use Rattle.std.proofs.Common.{◌≡◌, map, take}
use Rattle.star_meaning.specs.Arguments.{way_of}
use Rattle.star_compiler.proofs.expressions.ways.Given as goal

abbrev pub invariant-ways : goal.invariant-ways
invariant-ways l = l.ways ≡ map way_of (take l.arg-index l.args)
