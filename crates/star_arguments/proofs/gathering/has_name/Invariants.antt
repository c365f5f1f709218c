use Rattle.std.proofs.Common.{◌≡◌, drop}
use Rattle.star_meaning.specs.Arguments.{has_name}
use Rattle.star_arguments.proofs.gathering.has_name.Given as goal

abbrev pub invariant-loop-other : goal.invariant-loop-other
invariant-loop-other l = has_name l.name (drop l.other-index l.named) ≡ has_name l.name l.named
