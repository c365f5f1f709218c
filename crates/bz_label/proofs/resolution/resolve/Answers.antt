use Rattle.bz_label.proofs.GoodLabels.{Gives-good}
use Rattle.bz_label.proofs.ResolvedLabels.{Gives-bad_label, Gives-label, Gives-not_visible}
use Rattle.bz_label.proofs.resolution.resolve.Goals as goal

pub returns-clause-label : goal.returns-clause-label
returns-clause-label c = Gives-label c.args.map.now c.args.home.now c.args.text.now _
    c.meaning.ensures

pub returns-clause-bad_label : goal.returns-clause-bad_label
returns-clause-bad_label c = Gives-bad_label c.args.map.now c.args.home.now c.args.text.now _
    c.meaning.ensures

pub returns-clause-not_visible : goal.returns-clause-not_visible
returns-clause-not_visible c = Gives-not_visible c.args.map.now c.args.home.now c.args.text.now _
    c.meaning.ensures

pub returns-clause-good : goal.returns-clause-good
returns-clause-good c = Gives-good c.args.map.now c.args.home.now c.args.text.now _
    c.meaning.ensures
