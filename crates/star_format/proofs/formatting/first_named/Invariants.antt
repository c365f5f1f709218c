use Rattle.std.proofs.Common.{◌≡◌, drop, slice_get}
use Rattle.star_library.specs.Arguments.{values_named}
use Rattle.star_format.proofs.formatting.first_named.Given as goal

abbrev pub invariant-looking : goal.invariant-looking
invariant-looking l =
    slice_get (values_named l.name (drop l.argument-index l.named)) 0
    ≡ slice_get (values_named l.name l.named) 0
