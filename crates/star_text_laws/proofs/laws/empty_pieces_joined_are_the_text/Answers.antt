use Rattle.star_text_laws.proofs.Wholes.{joined_empty}
use Rattle.star_text_laws.proofs.laws.empty_pieces_joined_are_the_text.Goals as goal

pub returns : goal.returns
returns c = joined_empty
