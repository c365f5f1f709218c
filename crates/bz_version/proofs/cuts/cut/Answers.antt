use Rattle.bz_version.proofs.Marks.{before-cut, before-uncut, behind-cut, behind-uncut}
use Rattle.bz_version.proofs.cuts.cut.Goals as goal

pub returns-in-Some-clause-front : goal.returns-in-Some-clause-front
returns-in-Some-clause-front c = before-cut c.args.mark c.args.text.now _ _ c.in-Some.ensures.parts

pub returns-in-Some-clause-rest : goal.returns-in-Some-clause-rest
returns-in-Some-clause-rest c = behind-cut c.args.mark c.args.text.now _ _ c.in-Some.ensures.parts

pub returns-in-None-clause-front : goal.returns-in-None-clause-front
returns-in-None-clause-front c = before-uncut c.args.mark c.args.text.now c.in-None.ensures.whole

pub returns-in-None-clause-rest : goal.returns-in-None-clause-rest
returns-in-None-clause-rest c = behind-uncut c.args.mark c.args.text.now c.in-None.ensures.whole
