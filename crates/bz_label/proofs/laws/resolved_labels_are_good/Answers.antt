use Rattle.bz_label.proofs.GoodLabels.{resolved-good}
use Rattle.bz_label.proofs.laws.resolved_labels_are_good.Goals as goal

pub returns : goal.returns
returns c = resolved-good
