use Rattle.star_grammar.proofs.TextTrees.{Spelled-unique}
use Rattle.star_grammar.proofs.laws.one_tree.Goals as goal

pub returns : goal.returns
returns c = Spelled-unique
