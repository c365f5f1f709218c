use Rattle.selection.proofs.ChoiceLaws.{choice-highest, choice-none}
use Rattle.selection.proofs.laws.choice_is_highest.Goals as goal

pub returns-clause-chosen : goal.returns-clause-chosen
returns-clause-chosen c = choice-highest

pub returns-clause-absent : goal.returns-clause-absent
returns-clause-absent c = choice-none
