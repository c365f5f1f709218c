use Rattle.star_order_laws.proofs.ValueOrders.{within_is_order}
use Rattle.star_order_laws.proofs.laws.values_are_in_an_order.Goals as goal
use Rattle.star_trees.specs.Nesting.{deepest}

pub returns : goal.returns
returns c = λ heap. within_is_order deepest heap
