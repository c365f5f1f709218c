use Rattle.module_laws.proofs.laws.declarations_are_good.Goals as goal

pub returns : goal.returns
returns c = λ host kept. kept.declared
