use Rattle.star_text_laws.proofs.Firsts.{first_least}
use Rattle.star_text_laws.proofs.laws.the_first_index_is_the_least.Goals as goal

pub returns : goal.returns
returns c = first_least
