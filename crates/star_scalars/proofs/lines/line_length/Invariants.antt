use Rattle.std.proofs.Common.{◌≡◌, ◌+◌, drop}
use Rattle.star_scalars.specs.Lines.{line_length}
use Rattle.star_scalars.proofs.lines.line_length.Given as goal

abbrev pub invariant-counting : goal.invariant-counting
invariant-counting l =
    (l.long + line_length (drop l.c-index l.text) ≡ line_length l.text) × (l.long ≡ l.c-index)
