use Rattle.star_text_laws.proofs.LastPieces.{joined_last_pieces}
use Rattle.star_text_laws.proofs.laws.last_pieces_joined_are_the_text.Goals as goal

pub returns : goal.returns
returns c = joined_last_pieces
