use Rattle.std.proofs.Common.{◌∙◌, sym}
use Rattle.star_operators.proofs.Parts.{begins_longer}
use Rattle.star_operators.proofs.members.begins_with.Goals as goal

pub returns-in_default : goal.returns-in_default
returns-in_default c =
    sym (begins_longer c.args.part.now c.comparing.rest.now c.comparing.byte-index
    c.comparing-test.true c.in_default.len_below)
    ∙ c.comparing.invariant
