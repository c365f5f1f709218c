use Rattle.star_order_laws.proofs.KeyEquality.{keys_are_one}
use Rattle.star_order_laws.proofs.laws.keys_are_one_by_content.Goals as goal

pub returns : goal.returns
returns c = keys_are_one
