use Rattle.star_text_laws.proofs.Replaced.{replaced_whole}
use Rattle.star_text_laws.proofs.laws.replaced_texts_are_joined.Goals as goal

pub returns : goal.returns
returns c = replaced_whole
