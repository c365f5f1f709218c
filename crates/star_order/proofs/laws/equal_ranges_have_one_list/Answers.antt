use Rattle.star_order.proofs.RangeLaws.{ranges_same}
use Rattle.star_order.proofs.laws.equal_ranges_have_one_list.Goals as goal

pub returns : goal.returns
returns c = ranges_same
