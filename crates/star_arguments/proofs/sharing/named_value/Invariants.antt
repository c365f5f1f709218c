use Rattle.std.proofs.Common.{◌≡◌, drop}
use Rattle.star_meaning.specs.Parameters.{named_value}
use Rattle.star_arguments.proofs.sharing.named_value.Given as goal

abbrev pub invariant-loop-one : goal.invariant-loop-one
invariant-loop-one l = named_value l.name (drop l.one-index l.named) ≡ named_value l.name l.named
