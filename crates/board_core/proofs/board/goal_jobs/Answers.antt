use Rattle.std.proofs.Common.{◌+◌, ◌∙◌, ap, drop, sym}
use Rattle.bz_text.proofs.ListWalks.{drop-next}
use Rattle.board_machine.specs.Events.{with_jobs}
use Rattle.board_slots.specs.Views.{bare_rules}
use Rattle.board_core.proofs.board.goal_jobs.Goals as goal

pub loop-goal-preserved : goal.loop-goal-preserved
loop-goal-preserved g c =
    let rules = bare_rules (g.W.Work.meaning c.args.work.now) in
    let goals = c.args.goals.now in
    ap (with_jobs rules (drop (c.loop-goal.goal-index + 1) goals)) c.in_ok-add.ensures.added
    ∙ sym (ap (λ jobs. with_jobs rules jobs c.loop-goal.jobs)
    (drop-next goals c.loop-goal.goal-index c.goal-item.result c.loop-goal-test.true c.goal-item.is))
    ∙ c.loop-goal.invariant
