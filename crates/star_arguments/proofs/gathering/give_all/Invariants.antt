use Rattle.std.proofs.Common.{◌≡◌, drop}
use Rattle.star_meaning.specs.Arguments.{all_behind, no_args}
use Rattle.star_arguments.proofs.gathering.give_all.Given as goal

abbrev pub invariant-giving : goal.invariant-giving
invariant-giving l =
    all_behind l.heap l.args (drop l.way-index l.ways) l.left
    ≡ all_behind l.heap no_args l.ways l.values
