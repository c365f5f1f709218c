use Rattle.std.proofs.Common.{◌∙◌, [], ap}
use Rattle.board_machine.specs.Events.{with_jobs}
use Rattle.board_slots.specs.Views.{bare_rules}
use Rattle.board_core.proofs.Keeping.{opened_kept}
use Rattle.board_core.proofs.board.Board.begin.Goals as goal

pub invariant_of-result : goal.invariant_of-result
invariant_of-result g c =
    let meaning = g.W.Work.meaning g.N.BoardOf.work in
    opened_kept meaning g.N.BoardOf.files g.N.BoardOf.goals c.in_ok-jobs.jobs
    c.in_ok-open.field-0 c.requires.own
    (c.in_ok-jobs.ensures
    ∙ ap (λ w. with_jobs (bare_rules (g.W.Work.meaning w)) c.items.result.now []) c.requires.named
    ∙ ap (λ js. with_jobs (bare_rules meaning) js []) (c.items.ensures ∙ c.requires.goals))
    c.in_ok-open.ensures.opened c.in_ok-open.ensures.room
