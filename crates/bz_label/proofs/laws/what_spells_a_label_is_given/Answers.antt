use Rattle.bz_label.proofs.SpelledLabels.{label_parts-spelled}
use Rattle.bz_label.proofs.laws.what_spells_a_label_is_given.Goals as goal

pub returns : goal.returns
returns c = label_parts-spelled
