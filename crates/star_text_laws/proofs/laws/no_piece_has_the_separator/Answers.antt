use Rattle.std.proofs.Common.{arith, length}
use Rattle.star_text_laws.proofs.Pieces.{clean_pieces}
use Rattle.star_text_laws.proofs.laws.no_piece_has_the_separator.Goals as goal

pub returns : goal.returns
returns c = λ separator text some. clean_pieces (length text) separator text some (omega arith)
