use Rattle.std.proofs.Common.{length}
use Rattle.star_eval.specs.Evaluations.{file_world}
use Rattle.star_runs.proofs.CallRuns.{file_runs}
use Rattle.star_eval.proofs.laws.a_begun_file_stands_for_its_meaning.Goals as goal

pub returns : goal.returns
returns g c =
    λ store file name free limit evaluation host begun.
    record {
      comes = λ more within.
          rw begun.begins
          (file_runs g.H.Host.meaning g.L.Library.rows evaluation.files.codes more
          evaluation.files.programs begun.added.coded (length store.files.programs)
          (record { tree = file; literals = begun.added.literals }) begun.added.code
          begun.added.here begun.added.on_file (file_world free limit store.scopes begun.heap) host);
    }
