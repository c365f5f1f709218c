use Rattle.std.proofs.Common.{◌≡◌, drop}
use Rattle.star_order.specs.Equality.{field_named}
use Rattle.star_order.proofs.equality.field_named.Given as goal

abbrev pub invariant-looking : goal.invariant-looking
invariant-looking l = field_named l.name (drop l.field-index l.fields) ≡ field_named l.name l.fields
