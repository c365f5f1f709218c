use Rattle.std.proofs.Common.{◌≡◌, ◌+◌, drop}
use Rattle.star_scalars.specs.Pieces.{word_length}
use Rattle.star_scalars.proofs.pieces.word_length.Given as goal

abbrev pub invariant-counting : goal.invariant-counting
invariant-counting l =
    (l.long + word_length (drop l.c-index l.text) ≡ word_length l.text) × (l.long ≡ l.c-index)
