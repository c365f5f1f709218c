use Rattle.std.proofs.Common.{rules}
use Rattle.star_scopes.specs.ExprMaking.{dict_made, for_clause_made, list_made, many_target}
use Rattle.star_scopes.specs.ExprMaking.{pair_made, slice_made, tuple_made}
use Rattle.star_scopes.proofs.Layers.{arg_meaning-DoubleStar, arg_meaning-Named}
use Rattle.star_scopes.proofs.Layers.{arg_meaning-Positional, arg_meaning-Star, clause_meaning-For}
use Rattle.star_scopes.proofs.Layers.{clause_meaning-If, meaning-Attr, meaning-Binary}
use Rattle.star_scopes.proofs.Layers.{meaning-Bracketed, meaning-Call, meaning-Cond, meaning-Dict}
use Rattle.star_scopes.proofs.Layers.{meaning-DictComp, meaning-Index, meaning-Int, meaning-Lambda}
use Rattle.star_scopes.proofs.Layers.{meaning-List, meaning-ListComp, meaning-Name, meaning-Slice}
use Rattle.star_scopes.proofs.Layers.{meaning-Text, meaning-Tuple, meaning-Unary, pair_meaning-out}
use Rattle.star_scopes.proofs.Layers.{param_meaning-Bare, param_meaning-Keywords}
use Rattle.star_scopes.proofs.Layers.{param_meaning-Optional, param_meaning-Required}
use Rattle.star_scopes.proofs.Layers.{param_meaning-Rest}
use Rattle.star_scopes.proofs.maker.Maker.+making_expressions.Goals as goal

pub expr-returns-in-ListComp-clause-made : goal.expr-returns-in-ListComp-clause-made
expr-returns-in-ListComp-clause-made t c = rw c.in-ListComp.is
    (rw (meaning-ListComp c.in-ListComp.item c.in-ListComp.clauses) (search rules))

pub expr-returns-in-DictComp-clause-made : goal.expr-returns-in-DictComp-clause-made
expr-returns-in-DictComp-clause-made t c = rw c.in-DictComp.is
    (rw (meaning-DictComp c.in-DictComp.key c.in-DictComp.value c.in-DictComp.clauses)
    (search rules))

pub expr-returns-in-Unary-clause-made : goal.expr-returns-in-Unary-clause-made
expr-returns-in-Unary-clause-made t c = rw c.in-Unary.is
    (rw (meaning-Unary c.in-Unary.op c.in-Unary.of) (search rules))

pub expr-returns-in-Binary-clause-made : goal.expr-returns-in-Binary-clause-made
expr-returns-in-Binary-clause-made t c = rw c.in-Binary.is
    (rw (meaning-Binary c.in-Binary.op c.in-Binary.left c.in-Binary.right) (search rules))

pub expr-returns-in-Cond-clause-made : goal.expr-returns-in-Cond-clause-made
expr-returns-in-Cond-clause-made t c = rw c.in-Cond.is
    (rw (meaning-Cond c.in-Cond.test c.in-Cond.then c.in-Cond.other) (search rules))

pub expr-returns-in-Lambda-clause-made : goal.expr-returns-in-Lambda-clause-made
expr-returns-in-Lambda-clause-made t c = rw c.in-Lambda.is
    (rw (meaning-Lambda c.in-Lambda.params c.in-Lambda.body c.in-Lambda.line) (search rules))

pub expr-returns-in-Attr-clause-made : goal.expr-returns-in-Attr-clause-made
expr-returns-in-Attr-clause-made t c = rw c.in-Attr.is
    (rw (meaning-Attr c.in-Attr.of c.in-Attr.name) (search rules))

pub expr-returns-in-Index-clause-made : goal.expr-returns-in-Index-clause-made
expr-returns-in-Index-clause-made t c = rw c.in-Index.is
    (rw (meaning-Index c.in-Index.of c.in-Index.at) (search rules))

pub expr-returns-in-Call-clause-made : goal.expr-returns-in-Call-clause-made
expr-returns-in-Call-clause-made t c = rw c.in-Call.is
    (rw (meaning-Call c.in-Call.function c.in-Call.args) (search rules))

pub expr-returns-in-Bracketed-clause-made : goal.expr-returns-in-Bracketed-clause-made
expr-returns-in-Bracketed-clause-made t c = rw c.in-Bracketed.is
    (rw (meaning-Bracketed c.in-Bracketed.inside) (search rules))

pub expr-returns-in-Int-clause-made : goal.expr-returns-in-Int-clause-made
expr-returns-in-Int-clause-made t c = rw c.in-Int.is
    (rw (meaning-Int c.in-Int.value) (search rules))

pub expr-returns-in_ok-variable-in-Name-clause-made :
    goal.expr-returns-in_ok-variable-in-Name-clause-made
expr-returns-in_ok-variable-in-Name-clause-made t c = rw c.in-Name.is
    (rw (meaning-Name c.in-Name.name) (search rules))

pub expr-returns-in_ok-copy-in-Text-clause-made : goal.expr-returns-in_ok-copy-in-Text-clause-made
expr-returns-in_ok-copy-in-Text-clause-made t c = rw c.in-Text.is
    (rw (meaning-Text c.in-Text.text) (search rules))

pub expr-returns-in_ok-items_made-in-List-clause-made :
    goal.expr-returns-in_ok-items_made-in-List-clause-made
unfolding list_made
expr-returns-in_ok-items_made-in-List-clause-made t c = rw c.in-List.is
    (rw (meaning-List c.in-List.items) (search rules))

pub expr-returns-in_ok-items_made-in-Tuple-clause-made :
    goal.expr-returns-in_ok-items_made-in-Tuple-clause-made
unfolding tuple_made
expr-returns-in_ok-items_made-in-Tuple-clause-made t c = rw c.in-Tuple.is
    (rw (meaning-Tuple c.in-Tuple.items) (search rules))

pub expr-returns-in_ok-pairs_made-in-Dict-clause-made :
    goal.expr-returns-in_ok-pairs_made-in-Dict-clause-made
unfolding dict_made
expr-returns-in_ok-pairs_made-in-Dict-clause-made t c = rw c.in-Dict.is
    (rw (meaning-Dict c.in-Dict.pairs) (search rules))

pub expr-returns-in_ok-step-in-Slice-clause-made : goal.expr-returns-in_ok-step-in-Slice-clause-made
unfolding slice_made
expr-returns-in_ok-step-in-Slice-clause-made t c = rw c.in-Slice.is
    (rw (meaning-Slice c.in-Slice.of c.in-Slice.begin c.in-Slice.end c.in-Slice.step)
    (search rules))

pub target-returns-in_ok-variable-in-Name-clause-made :
    goal.target-returns-in_ok-variable-in-Name-clause-made
target-returns-in_ok-variable-in-Name-clause-made t c = rw c.in-Name.is
    (rw (meaning-Name c.in-Name.name) (search rules))

pub target-returns-in-Index-clause-made : goal.target-returns-in-Index-clause-made
target-returns-in-Index-clause-made t c = rw c.in-Index.is
    (rw (meaning-Index c.in-Index.of c.in-Index.at) (search rules))

pub target-returns-in-Bracketed-clause-made : goal.target-returns-in-Bracketed-clause-made
target-returns-in-Bracketed-clause-made t c = rw c.in-Bracketed.is
    (rw (meaning-Bracketed c.in-Bracketed.target) (search rules))

pub target-returns-in_ok-targets_made-in-Tuple-clause-made :
    goal.target-returns-in_ok-targets_made-in-Tuple-clause-made
unfolding many_target
target-returns-in_ok-targets_made-in-Tuple-clause-made t c = rw c.in-Tuple.is
    (rw (meaning-Tuple c.in-Tuple.targets) (search rules))

pub target-returns-in_ok-targets_made-in-List-clause-made :
    goal.target-returns-in_ok-targets_made-in-List-clause-made
unfolding many_target
target-returns-in_ok-targets_made-in-List-clause-made t c = rw c.in-List.is
    (rw (meaning-List c.in-List.targets) (search rules))

pub arg-returns-in_ok-expr-in-Positional-clause-made :
    goal.arg-returns-in_ok-expr-in-Positional-clause-made
arg-returns-in_ok-expr-in-Positional-clause-made t c = rw c.in-Positional.is
    (rw (arg_meaning-Positional c.in-Positional.value) (search rules))

pub arg-returns-in-Named-clause-made : goal.arg-returns-in-Named-clause-made
arg-returns-in-Named-clause-made t c = rw c.in-Named.is
    (rw (arg_meaning-Named c.in-Named.name c.in-Named.value) (search rules))

pub arg-returns-in_ok-expr-in-Star-clause-made : goal.arg-returns-in_ok-expr-in-Star-clause-made
arg-returns-in_ok-expr-in-Star-clause-made t c = rw c.in-Star.is
    (rw (arg_meaning-Star c.in-Star.value c.in-Star.line) (search rules))

pub arg-returns-in_ok-expr-in-DoubleStar-clause-made :
    goal.arg-returns-in_ok-expr-in-DoubleStar-clause-made
arg-returns-in_ok-expr-in-DoubleStar-clause-made t c = rw c.in-DoubleStar.is
    (rw (arg_meaning-DoubleStar c.in-DoubleStar.value c.in-DoubleStar.line) (search rules))

pub param-returns-in_ok-copy-in-Required-clause-made :
    goal.param-returns-in_ok-copy-in-Required-clause-made
param-returns-in_ok-copy-in-Required-clause-made t c = rw c.in-Required.is
    (rw (param_meaning-Required c.in-Required.name) (search rules))

pub param-returns-in-Optional-clause-made : goal.param-returns-in-Optional-clause-made
param-returns-in-Optional-clause-made t c = rw c.in-Optional.is
    (rw (param_meaning-Optional c.in-Optional.name c.in-Optional.default) (search rules))

pub param-returns-in-Bare-clause-made : goal.param-returns-in-Bare-clause-made
param-returns-in-Bare-clause-made t c = rw c.in-Bare.is
    (rw (param_meaning-Bare c.in-Bare.line) (search rules))

pub param-returns-in_ok-copy-in-Rest-clause-made : goal.param-returns-in_ok-copy-in-Rest-clause-made
param-returns-in_ok-copy-in-Rest-clause-made t c = rw c.in-Rest.is
    (rw (param_meaning-Rest c.in-Rest.name c.in-Rest.line) (search rules))

pub param-returns-in_ok-copy-in-Keywords-clause-made :
    goal.param-returns-in_ok-copy-in-Keywords-clause-made
param-returns-in_ok-copy-in-Keywords-clause-made t c = rw c.in-Keywords.is
    (rw (param_meaning-Keywords c.in-Keywords.name c.in-Keywords.line) (search rules))

pub clause-returns-in_ok-over-in-For-clause-made : goal.clause-returns-in_ok-over-in-For-clause-made
unfolding for_clause_made
clause-returns-in_ok-over-in-For-clause-made t c = rw c.in-For.is
    (rw (clause_meaning-For c.in-For.to c.in-For.over) (search rules))

pub clause-returns-in_ok-expr-in-If-clause-made : goal.clause-returns-in_ok-expr-in-If-clause-made
clause-returns-in_ok-expr-in-If-clause-made t c = rw c.in-If.is
    (rw (clause_meaning-If c.in-If.test) (search rules))

pub first_clause-returns-in_ok-over-in-For-clause-made :
    goal.first_clause-returns-in_ok-over-in-For-clause-made
unfolding for_clause_made
first_clause-returns-in_ok-over-in-For-clause-made t c = rw c.in-For.is
    (rw (clause_meaning-For c.in-For.to c.in-For.over) (search rules))

pub first_clause-returns-in_ok-expr-in-If-clause-made :
    goal.first_clause-returns-in_ok-expr-in-If-clause-made
first_clause-returns-in_ok-expr-in-If-clause-made t c = rw c.in-If.is
    (rw (clause_meaning-If c.in-If.test) (search rules))

pub pair-returns-clause-made : goal.pair-returns-clause-made
unfolding pair_made
pair-returns-clause-made t c = rw (pair_meaning-out c.args.pair.now) (search rules)
