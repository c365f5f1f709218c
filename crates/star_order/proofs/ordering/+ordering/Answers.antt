use Rattle.std.proofs.Common.{◌∙◌, ap, arith, refl, sym}
use Rattle.star_order.specs.Order as spec
use Rattle.star_order.specs.Order.{order_within}
use Rattle.star_order.proofs.Layers.{ended_greater, order_inside_none, order_inside_some}
use Rattle.star_order.proofs.Layers.{order_within_layer}
use Rattle.star_order.proofs.ordering.+ordering.Goals as goal

pub order_within-returns : goal.order_within-returns
order_within-returns t c =
    c.values_order.ensures
    ∙ sym (order_within_layer c.args.depth c.args.heap.now c.args.left.now c.args.right.now)

pub lists_order-returns-then-depth-eq0 : goal.lists_order-returns-then-depth-eq0
lists_order-returns-then-depth-eq0 t c = rw (c.if-depth-eq0.true, order_inside_none) refl

pub lists_order-returns : goal.lists_order-returns
lists_order-returns t c =
    c.items_order.ensures
    ∙ ap (λ inside. spec.lists_order inside c.args.left.now c.args.right.now)
    (sym (order_inside_some c.args.depth c.args.heap.now (omega arith)))

pub items_order-returns-in_default : goal.items_order-returns-in_default
items_order-returns-in_default t c =
    sym (ended_greater (order_within c.args.depth c.args.heap.now) c.args.left.now
    c.comparing.rest.now c.comparing.item-index c.comparing-test.true c.in_default.len_below)
    ∙ c.comparing.invariant
