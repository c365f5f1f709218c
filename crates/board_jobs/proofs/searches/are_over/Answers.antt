use Rattle.std.proofs.Common.{sym, subst}
use Rattle.board_jobs.specs.Indexes.{AllFit, AreValued}
use Rattle.board_jobs.proofs.Fitting.{all_valued}
use Rattle.board_jobs.proofs.searches.are_over.Goals as goal

pub first_unvalued-valued-requires-after_bounds : goal.first_unvalued-valued-requires-after_bounds
first_unvalued-valued-requires-after_bounds g c κs within =
    subst (λ n. AreValued n c.args.slots.now) (sym c.valued.ensures)
    (λ at slot stands less. (c.requires.fits at slot stands).valued less)

pub returns-clause-fits : goal.returns-clause-fits
returns-clause-fits g c =
    subst (λ index. AllFit index c.args.slots.now) (sym c.set_valued.ensures)
    (all_valued c.args.index.now c.args.slots.now c.first_unvalued-valued.result
    c.first_unvalued-valued.ensures c.requires.fits)
