use Rattle.std.proofs.Common.{◌≡◌, drop}
use Rattle.star_operators.specs.Members.{is_item}
use Rattle.star_order.specs.Equality.{equal}
use Rattle.star_operators.proofs.members.is_item.Given as goal

abbrev pub invariant-looking : goal.invariant-looking
invariant-looking l =
    is_item (equal l.heap) l.value (drop l.item-index l.items)
    ≡ is_item (equal l.heap) l.value l.items
