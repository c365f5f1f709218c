use Rattle.std.proofs.Common.{◌≡◌, Some, length}
use Rattle.star_grammar.specs.Orders.{args_in_order}
use Rattle.star_expressions.proofs.arg_orders.args_in_order.Given as goal

abbrev pub invariant-turns : goal.invariant-turns
invariant-turns l = args_in_order 0 l.fn.args ≡ args_in_order l.last l.rest

abbrev pub decreases-turns : goal.decreases-turns
decreases-turns l = length l.rest
