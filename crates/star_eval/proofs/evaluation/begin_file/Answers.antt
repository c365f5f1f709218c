use Rattle.star_eval.proofs.Begins.{file_begun_of}
use Rattle.star_eval.proofs.evaluation.begin_file.Goals as goal

pub returns : goal.returns
returns c =
    file_begun_of c.args.store c.args.file c.args.name c.args.free.now c.args.limit
    c.len-number.result c.in_ok-files.files c.in_ok-files.heap c.begun.result c.len-number.ensures
    c.in_ok-files.ensures c.begun.ensures
