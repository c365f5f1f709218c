use Rattle.star_library.proofs.RangeSteps.{next_fewer, next_items, next_last, next_of}
use Rattle.star_library.proofs.ranges.step_ahead.Goals as goal

pub returns-clause-items : goal.returns-clause-items
returns-clause-items c =
    next_items c.args.number c.args.stop c.args.step c.checked_add.result c.requires
    (next_of c.args.number c.args.step c.checked_add.result c.ranges.number c.ranges.step
    c.checked_add.ensures)

pub returns-clause-fewer : goal.returns-clause-fewer
returns-clause-fewer c =
    next_fewer c.args.number c.args.stop c.args.step c.checked_add.result c.requires
    (next_of c.args.number c.args.step c.checked_add.result c.ranges.number c.ranges.step
    c.checked_add.ensures)

pub returns-clause-last : goal.returns-clause-last
returns-clause-last c =
    next_last c.args.number c.args.stop c.args.step c.checked_add.result c.requires
    c.ranges.number c.ranges.stop
    (next_of c.args.number c.args.step c.checked_add.result c.ranges.number c.ranges.step
    c.checked_add.ensures)
