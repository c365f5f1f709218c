use Rattle.star_text_laws.proofs.Lasts.{last_greatest}
use Rattle.star_text_laws.proofs.laws.the_last_index_is_the_greatest.Goals as goal

pub returns : goal.returns
returns c = last_greatest
