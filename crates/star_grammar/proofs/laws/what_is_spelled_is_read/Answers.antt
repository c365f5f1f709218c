use Rattle.star_grammar.proofs.StatementComplete.{file-complete}
use Rattle.star_grammar.proofs.laws.what_is_spelled_is_read.Goals as goal

pub returns : goal.returns
returns c = file-complete
