use Rattle.std.proofs.Common.{ap, ◌∙◌}
use Rattle.star_core.specs.Tables.{answer_in}
use Rattle.star_core.proofs.KnownAnswers.{lookup-answer_in}
use Rattle.star_core.proofs.answers.Answers.get.Goals as goal

pub returns : goal.returns
returns c =
    c.get.ensures.value ∙ lookup-answer_in c.args.question.now c.self.inside.known.entries
    ∙ ap (λ table. answer_in table c.args.question.now) c.self.view_is
