use Rattle.bz_base.proofs.PlainOrigins.{label_stands}
use Rattle.bz_base.proofs.laws.good_label_stands.Goals as goal

pub returns : goal.returns
returns c = label_stands
