use Rattle.bz_label.proofs.SpelledLabels.{one_reading}
use Rattle.bz_label.proofs.laws.a_label_has_one_reading.Goals as goal

pub returns : goal.returns
returns c = one_reading
