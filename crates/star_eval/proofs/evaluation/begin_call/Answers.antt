use Rattle.std.proofs.Common.{◌∙◌, ap}
use Rattle.star_eval.proofs.Begins.{call_begun_of, standing_at}
use Rattle.star_eval.specs.Evaluations.{beginning}
use Rattle.star_eval.proofs.evaluation.begin_call.Goals as goal

pub returns : goal.returns
returns c =
    call_begun_of c.args.store c.args.f c.args.values.now c.args.limit c.in_ok-files.files
    c.standing.result c.in_ok-files.ensures.files c.in_ok-files.ensures.loaded
    (standing_at c.beginning-task.result _ c.args.store.scopes _ _ c.args.limit c.standing.result
    (c.beginning-task.ensures ∙ ap (beginning 0 1 0) c.in_ok-stack.ensures) c.restart.ensures
    c.standing.ensures)
