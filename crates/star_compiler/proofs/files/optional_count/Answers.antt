use Rattle.std.proofs.Common.{◌∙◌, ◌+◌, ap, arith, drop, length}
use Rattle.star_compiler.proofs.Functions.{one_counted}
use Rattle.star_compiler.proofs.files.optional_count.Goals as goal
use Rattle.star_meaning.specs.Parameters.{defaults_of}

pub counting-preserved : goal.counting-preserved
counting-preserved c =
    ap (λ n. n + length (defaults_of (drop (c.counting.param-index + 1) c.args.params.now)))
    c.in_ok-count.ensures
    ∙ one_counted c.args.params.now c.counting.param-index c.counting.count c.param-item.result
    (omega arith) c.param-item.is
    ∙ c.counting.invariant
