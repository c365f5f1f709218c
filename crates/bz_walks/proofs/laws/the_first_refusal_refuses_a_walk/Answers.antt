use Rattle.bz_walks.proofs.WalkOrders.{levels-first_refusal}
use Rattle.bz_walks.proofs.laws.the_first_refusal_refuses_a_walk.Goals as goal

pub returns : goal.returns
returns g c = levels-first_refusal
