use Rattle.std.proofs.Common.{◌≡◌, Ok, drop}
use Rattle.module_arguments.specs.GivenValues.{each_given, given_after}
use Rattle.module_arguments.proofs.given_values.each_given.Given as goal

abbrev pub invariant-giving : goal.invariant-giving
invariant-giving l =
    (given_after l.index l.heap l.args (Ok l.values.items) (drop l.parameter-index l.parameters)
    ≡ each_given l.parameters l.heap l.args)
    × (l.index ≡ l.parameter-index)
