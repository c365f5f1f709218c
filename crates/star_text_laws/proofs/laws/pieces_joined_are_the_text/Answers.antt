use Rattle.star_text_laws.proofs.Pieces.{joined_pieces}
use Rattle.star_text_laws.proofs.laws.pieces_joined_are_the_text.Goals as goal

pub returns : goal.returns
returns c = joined_pieces
