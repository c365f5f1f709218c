use Rattle.star_runs.proofs.CallRuns.{call_runs}
use Rattle.star_runs.proofs.laws.a_call_comes_to_what_it_means.Goals as goal

pub returns : goal.returns
returns g c =
    λ programs codes number f values answers world host coded.
    call_runs _ _ codes answers programs coded number f values world host
