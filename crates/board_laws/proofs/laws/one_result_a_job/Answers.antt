use Rattle.board_laws.proofs.Outcomes.{one_result}
use Rattle.board_laws.proofs.laws.one_result_a_job.Goals as goal

pub returns : goal.returns
returns g c = λ rules path job result law bounds is_path. one_result rules law bounds path job result is_path
