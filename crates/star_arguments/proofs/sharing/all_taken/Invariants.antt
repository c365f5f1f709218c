use Rattle.std.proofs.Common.{◌≡◌, drop}
use Rattle.star_meaning.specs.Parameters.{all_taken}
use Rattle.star_arguments.proofs.sharing.all_taken.Given as goal

abbrev pub invariant-loop-argument : goal.invariant-loop-argument
invariant-loop-argument l =
    all_taken l.formals (drop l.argument-index l.named) ≡ all_taken l.formals l.named
