use Rattle.star_runs.proofs.CallRuns.{file_runs}
use Rattle.star_runs.proofs.laws.a_file_comes_to_what_it_means.Goals as goal

pub returns : goal.returns
returns g c =
    λ programs codes number program this answers world host coded here on_file.
    file_runs _ _ codes answers programs coded number program this here on_file world host
