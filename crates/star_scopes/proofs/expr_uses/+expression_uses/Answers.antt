use Rattle.std.proofs.Common.{rules}
use Rattle.star_scopes.specs.ExprUses.{slice_uses}
use Rattle.star_scopes.proofs.Layers.{meaning-Attr, meaning-Binary, meaning-Bracketed, meaning-Call}
use Rattle.star_scopes.proofs.Layers.{meaning-Cond, meaning-Dict, meaning-DictComp, meaning-Index}
use Rattle.star_scopes.proofs.Layers.{meaning-Int, meaning-Lambda, meaning-List, meaning-ListComp}
use Rattle.star_scopes.proofs.Layers.{meaning-Name, meaning-Slice, meaning-Text, meaning-Tuple}
use Rattle.star_scopes.proofs.Layers.{meaning-Unary}
use Rattle.star_scopes.proofs.expr_uses.+expression_uses.Goals as goal

pub expr_uses-returns-in-List-clause-uses : goal.expr_uses-returns-in-List-clause-uses
expr_uses-returns-in-List-clause-uses t c = search (rules, meaning-List)

pub expr_uses-returns-in-Tuple-clause-uses : goal.expr_uses-returns-in-Tuple-clause-uses
expr_uses-returns-in-Tuple-clause-uses t c = search (rules, meaning-Tuple)

pub expr_uses-returns-in-Dict-clause-uses : goal.expr_uses-returns-in-Dict-clause-uses
expr_uses-returns-in-Dict-clause-uses t c = search (rules, meaning-Dict)

pub expr_uses-returns-in-Bracketed-clause-uses : goal.expr_uses-returns-in-Bracketed-clause-uses
expr_uses-returns-in-Bracketed-clause-uses t c = search (rules, meaning-Bracketed)

pub expr_uses-returns-in-Name-clause-uses : goal.expr_uses-returns-in-Name-clause-uses
expr_uses-returns-in-Name-clause-uses t c = search (rules, meaning-Name)

pub expr_uses-returns-in-Int-clause-uses : goal.expr_uses-returns-in-Int-clause-uses
expr_uses-returns-in-Int-clause-uses t c = search (rules, meaning-Int)

pub expr_uses-returns-in-Text-clause-uses : goal.expr_uses-returns-in-Text-clause-uses
expr_uses-returns-in-Text-clause-uses t c = search (rules, meaning-Text)

pub expr_uses-returns-in-ListComp-clause-uses : goal.expr_uses-returns-in-ListComp-clause-uses
expr_uses-returns-in-ListComp-clause-uses t c = rw c.in-ListComp.is
    (rw (meaning-ListComp c.in-ListComp.item c.in-ListComp.clauses) (search rules))

pub expr_uses-returns-in-DictComp-clause-uses : goal.expr_uses-returns-in-DictComp-clause-uses
expr_uses-returns-in-DictComp-clause-uses t c = rw c.in-DictComp.is
    (rw (meaning-DictComp c.in-DictComp.key c.in-DictComp.value c.in-DictComp.clauses)
    (search rules))

pub expr_uses-returns-in-Unary-clause-uses : goal.expr_uses-returns-in-Unary-clause-uses
expr_uses-returns-in-Unary-clause-uses t c = rw c.in-Unary.is
    (rw (meaning-Unary c.in-Unary.op c.in-Unary.of) (search rules))

pub expr_uses-returns-in-Binary-clause-uses : goal.expr_uses-returns-in-Binary-clause-uses
expr_uses-returns-in-Binary-clause-uses t c = rw c.in-Binary.is
    (rw (meaning-Binary c.in-Binary.op c.in-Binary.left c.in-Binary.right) (search rules))

pub expr_uses-returns-in-Cond-clause-uses : goal.expr_uses-returns-in-Cond-clause-uses
expr_uses-returns-in-Cond-clause-uses t c = rw c.in-Cond.is
    (rw (meaning-Cond c.in-Cond.test c.in-Cond.then c.in-Cond.other) (search rules))

pub expr_uses-returns-in-Lambda-clause-uses : goal.expr_uses-returns-in-Lambda-clause-uses
expr_uses-returns-in-Lambda-clause-uses t c = rw c.in-Lambda.is
    (rw (meaning-Lambda c.in-Lambda.params c.in-Lambda.body c.in-Lambda.line) (search rules))

pub expr_uses-returns-in-Attr-clause-uses : goal.expr_uses-returns-in-Attr-clause-uses
expr_uses-returns-in-Attr-clause-uses t c = rw c.in-Attr.is
    (rw (meaning-Attr c.in-Attr.of c.in-Attr.name) (search rules))

pub expr_uses-returns-in-Index-clause-uses : goal.expr_uses-returns-in-Index-clause-uses
expr_uses-returns-in-Index-clause-uses t c = rw c.in-Index.is
    (rw (meaning-Index c.in-Index.of c.in-Index.at) (search rules))

pub expr_uses-returns-in-Call-clause-uses : goal.expr_uses-returns-in-Call-clause-uses
expr_uses-returns-in-Call-clause-uses t c = rw c.in-Call.is
    (rw (meaning-Call c.in-Call.function c.in-Call.args) (search rules))

pub expr_uses-returns-in_ok-names-in-Slice-3-clause-uses :
    goal.expr_uses-returns-in_ok-names-in-Slice-3-clause-uses
unfolding slice_uses
expr_uses-returns-in_ok-names-in-Slice-3-clause-uses t c = rw c.in-Slice.is
    (rw (meaning-Slice c.in-Slice.of c.in-Slice.begin c.in-Slice.end c.in-Slice.step)
    (search rules))

pub expr_uses-returns-in_err-names-in-Slice-clause-uses :
    goal.expr_uses-returns-in_err-names-in-Slice-clause-uses
unfolding slice_uses
expr_uses-returns-in_err-names-in-Slice-clause-uses t c = rw c.in-Slice.is
    (rw (meaning-Slice c.in-Slice.of c.in-Slice.begin c.in-Slice.end c.in-Slice.step)
    (search rules))

pub expr_uses-returns-in_err-names-in-Slice-2-clause-uses :
    goal.expr_uses-returns-in_err-names-in-Slice-2-clause-uses
unfolding slice_uses
expr_uses-returns-in_err-names-in-Slice-2-clause-uses t c = rw c.in-Slice.is
    (rw (meaning-Slice c.in-Slice.of c.in-Slice.begin c.in-Slice.end c.in-Slice.step)
    (search rules))

pub expr_uses-returns-in_err-names-in-Slice-3-clause-uses :
    goal.expr_uses-returns-in_err-names-in-Slice-3-clause-uses
unfolding slice_uses
expr_uses-returns-in_err-names-in-Slice-3-clause-uses t c = rw c.in-Slice.is
    (rw (meaning-Slice c.in-Slice.of c.in-Slice.begin c.in-Slice.end c.in-Slice.step)
    (search rules))
