use Rattle.bz_label.proofs.SpelledLabels.{Gives-given, Gives-no_label, Gives-spells}
use Rattle.bz_label.proofs.label_text.LabelText.parse.Goals as goal

pub returns-clause-label : goal.returns-clause-label
returns-clause-label c = Gives-spells c.args.text.now _ c.take_apart.ensures

pub returns-clause-no_label : goal.returns-clause-no_label
returns-clause-no_label c = Gives-no_label c.args.text.now _ c.take_apart.ensures

pub returns-clause-given : goal.returns-clause-given
returns-clause-given c = Gives-given c.args.text.now _ c.take_apart.ensures
