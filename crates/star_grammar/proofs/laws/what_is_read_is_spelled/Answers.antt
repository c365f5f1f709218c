use Rattle.star_grammar.proofs.StatementSound.{file-sound}
use Rattle.star_grammar.proofs.laws.what_is_read_is_spelled.Goals as goal

pub returns : goal.returns
returns c = file-sound
