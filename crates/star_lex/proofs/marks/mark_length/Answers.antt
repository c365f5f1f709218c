use Rattle.star_lex.proofs.MarkLengths.{longest-triple, longest-double, longest-single}
use Rattle.star_lex.proofs.MarkLengths.{longest-none}
use Rattle.star_lex.proofs.marks.mark_length.Goals as goal

pub returns-then-has_mark-clause-found : goal.returns-then-has_mark-clause-found
returns-then-has_mark-clause-found c =
    longest-triple c.args.text.now (c.has_mark.ensures.within c.if-has_mark.true)
    (c.has_mark.ensures.marked c.if-has_mark.true)

pub returns-then-has_mark-2-clause-found : goal.returns-then-has_mark-2-clause-found
returns-then-has_mark-2-clause-found c =
    let second = c.has_mark-else-has_mark.ensures in
    longest-double c.args.text.now (c.has_mark.ensures.unmarked c.if-has_mark.false)
    (second.within c.if-has_mark-2.true) (second.marked c.if-has_mark-2.true)

pub returns-then-has_mark-3-clause-found : goal.returns-then-has_mark-3-clause-found
returns-then-has_mark-3-clause-found c =
    let second = c.has_mark-else-has_mark.ensures in
    let third = c.has_mark-else-has_mark-2.ensures in
    longest-single c.args.text.now (c.has_mark.ensures.unmarked c.if-has_mark.false)
    (second.unmarked c.if-has_mark-2.false) (third.within c.if-has_mark-3.true)
    (third.marked c.if-has_mark-3.true)

pub returns-else-has_mark-3-clause-absent : goal.returns-else-has_mark-3-clause-absent
returns-else-has_mark-3-clause-absent c =
    let second = c.has_mark-else-has_mark.ensures in
    let third = c.has_mark-else-has_mark-2.ensures in
    longest-none c.args.text.now (c.has_mark.ensures.unmarked c.if-has_mark.false)
    (second.unmarked c.if-has_mark-2.false) (third.unmarked c.if-has_mark-3.false)
