use Rattle.std.proofs.Common.{◌∙◌, ◌+◌, ap, arith, drop}
use Rattle.star_arguments.proofs.Others.{one_more}
use Rattle.star_arguments.proofs.sharing.others_named.Goals as goal
use Rattle.star_meaning.specs.Parameters.{others_behind}

pub sorting-preserved : goal.sorting-preserved
sorting-preserved c =
    ap (λ o. others_behind c.args.formals.now o
    (drop (c.sorting.argument-index + 1) c.args.named.now)) c.in_ok-others.ensures
    ∙ one_more c.args.formals.now c.args.named.now c.sorting.others.items c.sorting.argument-index
    c.argument-item.result (omega arith) c.argument-item.is
    ∙ c.sorting.invariant
