use Rattle.module_values.proofs.GoodValues.{plain_is_good}
use Rattle.module_values.proofs.laws.plain_values_are_good.Goals as goal

pub returns : goal.returns
returns c = plain_is_good
