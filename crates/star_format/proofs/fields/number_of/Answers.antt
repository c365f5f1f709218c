use Rattle.std.proofs.Common.{◌≤◌, rules, subst}
use Rattle.bz_text.proofs.ListWalks.{drop-next}
use Rattle.star_format.proofs.Numbers.{large}
use Rattle.star_format.proofs.fields.number_of.Goals as goal

pub returns-in-None-clause-large : goal.returns-in-None-clause-large
returns-in-None-clause-large c =
    subst (λ whole. 18446744073709551616 ≤ whole) c.reading.invariant
    (large c.reading.number c.c-item.result c.reading.c-index c.args.digits.now
    18446744073709551616
    (drop-next c.args.digits.now c.reading.c-index c.c-item.result (search rules) (search rules))
    c.in-None.ensures.large)
