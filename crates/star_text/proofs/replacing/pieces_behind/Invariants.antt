use Rattle.std.proofs.Common.{◌≡◌, drop}
use Rattle.star_text.specs.Answers.{pieces_behind}
use Rattle.star_text.proofs.replacing.pieces_behind.Given as goal

abbrev pub invariant-joining : goal.invariant-joining
invariant-joining l =
    pieces_behind l.new (drop l.piece-index l.pieces) l.whole
    ≡ pieces_behind l.new l.pieces l.fn.text
