use Rattle.board_machine.proofs.Whole.{run_stays}
use Rattle.board_machine.proofs.laws.done_jobs_stay.Goals as goal

pub returns : goal.returns
returns g c =
    λ rules before events after place slot run stands is_done.
    run_stays rules run place slot stands is_done
