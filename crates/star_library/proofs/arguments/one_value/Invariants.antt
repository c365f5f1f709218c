use Rattle.std.proofs.Common.{◌≡◌, ◌++◌, drop}
use Rattle.std.specs.Option.{option_to_list}
use Rattle.star_library.specs.Arguments.{values_named}
use Rattle.star_library.proofs.arguments.one_value.Given as goal

abbrev pub invariant-looking : goal.invariant-looking
invariant-looking l =
    option_to_list l.found ++ values_named l.name (drop l.argument-index l.named)
    ≡ option_to_list l.fn.first ++ values_named l.name l.named
