use Rattle.std.proofs.Common.{◌≡◌, length}
use Rattle.module_arguments.specs.Arguments.{names_differ}
use Rattle.module_arguments.proofs.arguments.names_differ.Given as goal

abbrev pub invariant-comparing : goal.invariant-comparing
invariant-comparing l = names_differ l.rest ≡ names_differ l.named

abbrev pub decreases-comparing : goal.decreases-comparing
decreases-comparing l = length l.rest
