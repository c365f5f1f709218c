use Rattle.std.proofs.Common.{◌≡◌, drop}
use Rattle.module_arguments.specs.Arguments.{first_named}
use Rattle.module_arguments.proofs.arguments.first_named.Given as goal

abbrev pub invariant-looking : goal.invariant-looking
invariant-looking l =
    first_named l.name (drop l.argument-index l.named) ≡ first_named l.name l.named
