use Rattle.std.proofs.Common.{◌≡◌, [], drop}
use Rattle.board_machine.specs.Events.{with_jobs}
use Rattle.board_slots.specs.Views.{bare_rules}
use Rattle.board_core.proofs.board.goal_jobs.Given as goal

abbrev pub invariant-loop-goal : goal.invariant-loop-goal
invariant-loop-goal g l =
    with_jobs (bare_rules (g.W.Work.meaning l.work)) (drop l.goal-index l.goals) l.jobs
    ≡ with_jobs (bare_rules (g.W.Work.meaning l.work)) l.goals []
