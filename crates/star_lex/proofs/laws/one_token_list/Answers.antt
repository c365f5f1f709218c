use Rattle.star_lex.proofs.ScanLaws.{Lexes-unique}
use Rattle.star_lex.proofs.laws.one_token_list.Goals as goal

pub returns : goal.returns
returns c = Lexes-unique
