use Rattle.std.proofs.Common.{◌∙◌, sym}
use Rattle.star_operators.proofs.Parts.{has_part_ended}
use Rattle.star_operators.proofs.members.has_part.Goals as goal

pub returns : goal.returns
returns c =
    c.is_empty.ensures
    ∙ sym (has_part_ended c.args.part.now c.looking.rest.now c.in_default.len_below)
    ∙ c.looking.invariant
