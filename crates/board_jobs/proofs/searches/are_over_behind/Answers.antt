use Rattle.std.proofs.Common.{◌∙◌, sym, arith}
use Rattle.board_jobs.proofs.Fitting.{all_over, over_behind}
use Rattle.board_jobs.proofs.searches.are_over_behind.Goals as goal

pub returns-then-valued-goals : goal.returns-then-valued-goals
returns-then-valued-goals g c =
    let less = c.if-valued-goals.true in
    c.are_over.ensures
    ∙ sym (over_behind c.args.valued c.args.goals c.args.slots.now c.requires.valued
    (omega (arith, less)))

pub returns : goal.returns
returns g c =
    sym (all_over c.args.valued c.args.goals c.args.slots.now c.requires.valued
    c.if-valued-goals.false)
