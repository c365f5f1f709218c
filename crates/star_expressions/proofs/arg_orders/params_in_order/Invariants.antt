use Rattle.std.proofs.Common.{◌≡◌, Some, length}
use Rattle.star_grammar.specs.Orders.{params_in_order}
use Rattle.star_expressions.proofs.arg_orders.params_in_order.Given as goal

abbrev pub invariant-turns : goal.invariant-turns
invariant-turns l = params_in_order (Some 0) l.fn.params ≡ params_in_order (Some l.last) l.rest

abbrev pub decreases-turns : goal.decreases-turns
decreases-turns l = length l.rest
