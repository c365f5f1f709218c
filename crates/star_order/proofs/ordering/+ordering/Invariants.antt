use Rattle.std.proofs.Common.{◌≡◌, ◌+◌, ◌*◌, drop}
use Rattle.star_order.specs.Order.{items_order, order_within}
use Rattle.star_order.proofs.ordering.+ordering.Given as goal

abbrev pub decreases-order_within : goal.decreases-order_within
decreases-order_within l = 8 * l.depth + 5

abbrev pub decreases-values_order : goal.decreases-values_order
decreases-values_order l = 8 * l.depth + 4

abbrev pub decreases-held_order : goal.decreases-held_order
decreases-held_order l = 8 * l.depth + 3

abbrev pub decreases-cells_order : goal.decreases-cells_order
decreases-cells_order l = 8 * l.depth + 2

abbrev pub decreases-lists_order : goal.decreases-lists_order
decreases-lists_order l = 8 * l.depth + 1

abbrev pub decreases-items_order : goal.decreases-items_order
decreases-items_order l = 8 * l.depth + 6

abbrev pub invariant-items_order-comparing : goal.invariant-items_order-comparing
invariant-items_order-comparing l =
    items_order (order_within l.depth l.heap) (drop l.item-index l.left) l.rest
    ≡ items_order (order_within l.depth l.heap) l.left l.right
