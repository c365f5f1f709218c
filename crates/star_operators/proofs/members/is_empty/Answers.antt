use Rattle.std.proofs.Common.{[], arith, sym}
use Rattle.star_operators.proofs.Parts.{begins_longer}
use Rattle.star_operators.proofs.members.is_empty.Goals as goal

pub returns-in-len1-up : goal.returns-in-len1-up
returns-in-len1-up c =
    sym (begins_longer c.args.part.now [] 0 (omega arith) (omega arith))
