use Rattle.std.proofs.Common.{◌≡◌, drop}
use Rattle.star_lists.specs.MethodNames.{method_among}
use Rattle.star_lists.proofs.methods.method_among.Given as goal

abbrev pub invariant-looking : goal.invariant-looking
invariant-looking l =
    method_among (drop l.method-index l.methods) l.name ≡ method_among l.methods l.name
