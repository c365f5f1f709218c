use Rattle.std.proofs.Common.{◌≤◌, add-one, drop-cons, get_or, subst}
use Rattle.star_integers.proofs.Growing.{large}
use Rattle.star_integers.proofs.digits.number_of.Goals as goal

pub returns-in-None-clause-large : goal.returns-in-None-clause-large
returns-in-None-clause-large c =
    subst (λ whole. 18446744073709551616 ≤ whole) c.reading.invariant
    (large c.args.base c.reading.number (get_or c.args.digits.now c.reading.c-index 0)
    c.reading.c-index c.args.digits.now 18446744073709551616 c.requires
    (rw add-one (drop-cons c.args.digits.now c.reading.c-index 0 c.reading-test.true))
    c.in-None.ensures.large)
