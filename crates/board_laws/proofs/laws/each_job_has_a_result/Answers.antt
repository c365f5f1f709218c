use Rattle.board_laws.proofs.Outcomes.{recursive_has}
use Rattle.board_laws.proofs.laws.each_job_has_a_result.Goals as goal

pub returns : goal.returns
returns g c = λ rules path job law bounds is_path. recursive_has rules law bounds is_path
