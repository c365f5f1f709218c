use Rattle.module_file.proofs.LiteralPieces.{line_of_pieces-six}
use Rattle.module_file.proofs.literal_line.read_pieces.Goals as goal

pub returns-in_default-cut_at-4 : goal.returns-in_default-cut_at-4
returns-in_default-cut_at-4 c =
    rw (
      c.in-Some.ensures.first,
      c.in-Some-cut_at.ensures.first,
      c.in-Some-cut_at-2.ensures.first,
      c.in-Some-cut_at-3.ensures.first,
      c.in_default-cut_at-4.ensures.first,
    )
    (line_of_pieces-six c.in-Some.front.now c.in-Some-cut_at.name.now c.in-Some-cut_at-2.middle.now
    c.in-Some-cut_at-3.version.now c.in_default-cut_at-4.field-0.0.now
    c.in_default-cut_at-4.field-0.1.now)
