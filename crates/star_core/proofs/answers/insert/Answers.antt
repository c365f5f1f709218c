use Rattle.std.proofs.Common.{ap, ◌∙◌}
use Rattle.star_core.specs.Tables.{known_of}
use Rattle.star_core.proofs.KnownAnswers.{known_of-insert_entry}
use Rattle.star_core.proofs.answers.insert.Goals as goal

pub returns-clause-ok : goal.returns-clause-ok
returns-clause-ok c =
    ap known_of c.in_ok-insert.ensures.entries
    ∙ known_of-insert_entry c.args.known.now.entries c.args.question c.args.answer
