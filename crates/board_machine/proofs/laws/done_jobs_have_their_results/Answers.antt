use Rattle.board_machine.proofs.Whole.{every_result}
use Rattle.board_machine.proofs.laws.done_jobs_have_their_results.Goals as goal

pub returns : goal.returns
returns g c =
    λ rules goals events after place slot result law bounds owned run stands is_done.
    every_result rules law bounds goals owned run place slot stands result is_done
