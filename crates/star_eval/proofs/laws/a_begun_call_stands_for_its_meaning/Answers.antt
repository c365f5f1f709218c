use Rattle.star_eval.specs.Evaluations.{call_world}
use Rattle.star_runs.proofs.CallRuns.{call_runs}
use Rattle.star_eval.proofs.laws.a_begun_call_stands_for_its_meaning.Goals as goal

pub returns : goal.returns
returns g c =
    λ store f values limit evaluation host begun.
    record {
      comes = λ more within.
          rw begun.begins
          (call_runs g.H.Host.meaning g.L.Library.rows evaluation.files.codes more
          evaluation.files.programs begun.loaded.coded 0 f values
          (call_world limit store.scopes store.heap) host);
    }
