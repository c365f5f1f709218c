use Rattle.star_expressions.proofs.NameLists.{Adds-none}
use Rattle.star_expressions.proofs.arg_orders.add_any.Goals as goal

pub returns-in-None : goal.returns-in-None
returns-in-None c = rw c.in-None.is (Adds-none c.args.names.now)
