use Rattle.std.proofs.Common.{◌∙◌, ap, arith, refl, rules, sym}
use Rattle.std.specs.Option.{option_copied}
use Rattle.star_compiler.proofs.ClauseArms.{clause_turn, comprehension_none, comprehension_some}
use Rattle.star_compiler.proofs.ClauseArms.{each_clause, first_each, first_there, first_where}
use Rattle.star_compiler.proofs.ClauseArms.{item_fill, no_first, none_written, one_written}
use Rattle.star_compiler.proofs.ClauseArms.{where_clause}
use Rattle.star_compiler.proofs.ExprArms.{absent_arm, as_args, as_block, as_call, as_comprehension}
use Rattle.star_compiler.proofs.ExprArms.{as_expr, as_exprs, as_fill, as_pairs}
use Rattle.star_compiler.proofs.ExprArms.{attribute_arm, binary_arm, call_arm, cond_arm, dict_arm}
use Rattle.star_compiler.proofs.ExprArms.{dict_comp_arm, double_star_arm, expr_block, index_arm}
use Rattle.star_compiler.proofs.ExprArms.{int_arm, lambda_arm, list_arm, list_comp_arm, more_args}
use Rattle.star_compiler.proofs.ExprArms.{more_exprs, more_pairs, name_arm, named_arm, no_args}
use Rattle.star_compiler.proofs.ExprArms.{no_exprs, no_pairs, positional_arm, short_arm, slice_arm}
use Rattle.star_compiler.proofs.ExprArms.{star_arm, text_arm, there_arm, tuple_arm, unary_arm}
use Rattle.star_compiler.proofs.Growing.{if_ok, on_ok}
use Rattle.star_compiler.proofs.StmtArms.{as_targets, index_target, many_targets, more_targets}
use Rattle.star_compiler.proofs.StmtArms.{name_target, no_targets}
use Rattle.star_compiler.proofs.emitter.Emitter.+expression.Goals as goal

pub arg-returns-in-Positional : goal.arg-returns-in-Positional
arg-returns-in-Positional t c =
    on_ok _ _ _ (λ last. positional_arm _ _ _ _ _ _ c.in-Positional.is last) c.expr.ensures

pub arg-returns-in-Named : goal.arg-returns-in-Named
arg-returns-in-Named t c =
    on_ok _ _ _ (λ last. named_arm _ _ _ _ _ _ _ c.in-Named.is last) c.expr-in-Named.ensures

pub arg-returns-in_ok-put-in-Star : goal.arg-returns-in_ok-put-in-Star
arg-returns-in_ok-put-in-Star t c =
    on_ok _ _ _ (λ last. star_arm _ _ _ _ _ _ _ c.in-Star.is c.in_ok-put-in-Star.ensures last)
    c.expr-in-Star.ensures

pub arg-returns-in_ok-put-in-DoubleStar : goal.arg-returns-in_ok-put-in-DoubleStar
arg-returns-in_ok-put-in-DoubleStar t c =
    on_ok _ _ _ (λ last. double_star_arm _ _ _ _ _ _ _ c.in-DoubleStar.is
    c.in_ok-put-in-DoubleStar.ensures last) c.expr-in-DoubleStar.ensures

pub args-args-2-init : goal.args-args-2-init
args-args-2-init t c = (omega arith, no_args c.args.args.now _ _)

pub args-args-2-preserved : goal.args-args-2-preserved
args-args-2-preserved t c = (
  omega arith,
  more_args c.args.args.now c.args-2.left _ _ _ _ _ _ _ (omega arith) (omega arith)
      c.index-args-left.is c.args-2.invariant.1 c.in_ok-arg.ensures,
)

pub bound-returns-in-None : goal.bound-returns-in-None
bound-returns-in-None t c =
    on_ok _ _ _ (λ last. absent_arm _ _ _ _ c.in-None.is last) c.put.ensures

pub bound-returns-in-Some : goal.bound-returns-in-Some
bound-returns-in-Some t c =
    on_ok _ _ _ (λ last. there_arm _ _ _ _ _ _ c.in-Some.is (as_expr c.get.ensures last))
    c.expr.ensures

pub expr-returns-in-Name : goal.expr-returns-in-Name
expr-returns-in-Name t c =
    on_ok _ _ _ (λ last. name_arm _ _ _ _ _ c.in-Name.is last) c.put.ensures

pub expr-returns-in-Int : goal.expr-returns-in-Int
expr-returns-in-Int t c =
    on_ok _ _ _ (λ last. int_arm _ _ _ _ _ _ c.in-Int.is (search rules) last)
    c.put-in-Int.ensures

pub expr-returns-in_ok-value-in-Text : goal.expr-returns-in_ok-value-in-Text
expr-returns-in_ok-value-in-Text t c =
    on_ok _ _ _ (λ last. text_arm _ _ _ _ _ _ _ c.in-Text.is c.in_ok-value-in-Text.ensures last)
    c.put-in-Text.ensures

pub expr-returns-in_ok-exprs-in-List : goal.expr-returns-in_ok-exprs-in-List
expr-returns-in_ok-exprs-in-List t c =
    on_ok _ _ _ (λ last. list_arm _ _ _ _ _ _ _ _ _ c.in-List.is c.len.ensures
    c.in_ok-put-in-List.ensures
    (as_exprs c.as_slice.ensures c.in_ok-exprs-in-List.ensures) last) c.put-in-List-2.ensures

pub expr-returns-in_ok-exprs-in-Tuple : goal.expr-returns-in_ok-exprs-in-Tuple
expr-returns-in_ok-exprs-in-Tuple t c =
    on_ok _ _ _ (λ last. tuple_arm _ _ _ _ _ _ _ _ _ c.in-Tuple.is c.len-in-Tuple.ensures
    c.in_ok-put-in-Tuple.ensures
    (as_exprs c.as_slice-in-Tuple.ensures c.in_ok-exprs-in-Tuple.ensures) last)
    c.put-in-Tuple-2.ensures

pub expr-returns-in_ok-put-in-Dict : goal.expr-returns-in_ok-put-in-Dict
expr-returns-in_ok-put-in-Dict t c =
    on_ok _ _ _ (λ last. dict_arm _ _ _ _ _ _ _ _ c.in-Dict.is
    (as_pairs c.as_slice-in-Dict.ensures c.in_ok-pairs-in-Dict.ensures)
    c.in_ok-put-in-Dict.ensures last) c.put-in-Dict-2.ensures

pub expr-returns-in_ok-put-in-ListComp : goal.expr-returns-in_ok-put-in-ListComp
expr-returns-in_ok-put-in-ListComp t c =
    on_ok _ _ _ (λ last. list_comp_arm _ _ _ _ _ _ _ _ _ _ _ c.in-ListComp.is
    (as_fill c.get.ensures c.in_ok-fill-in-ListComp.ensures)
    (as_comprehension c.as_slice-in-ListComp.ensures c.in_ok-comprehension-in-ListComp.ensures)
    c.in_ok-put-in-ListComp.ensures last) c.put-in-ListComp-2.ensures

pub expr-returns-in_ok-put-in-DictComp-2 : goal.expr-returns-in_ok-put-in-DictComp-2
expr-returns-in_ok-put-in-DictComp-2 t c =
    on_ok _ _ _ (λ last. dict_comp_arm _ _ _ _ _ _ _ _ _ _ _ _ _ _ _ _ c.in-DictComp.is
    c.new-fill.ensures c.in_ok-put-in-DictComp.ensures
    (as_expr c.get-in-DictComp.ensures c.in_ok-expr-in-DictComp.ensures)
    (as_expr c.get-in-DictComp-2.ensures c.in_ok-expr-in-DictComp-2.ensures)
    (as_comprehension c.as_slice-in-DictComp.ensures c.in_ok-comprehension-in-DictComp.ensures)
    c.in_ok-put-in-DictComp-2.ensures last) c.put-in-DictComp-3.ensures

pub expr-returns-in_ok-expr-in-Unary : goal.expr-returns-in_ok-expr-in-Unary
expr-returns-in_ok-expr-in-Unary t c =
    on_ok _ _ _ (λ last. unary_arm _ _ _ _ _ _ _ _ _ c.in-Unary.is c.in_ok-put-in-Unary.ensures
    (as_expr c.get-in-Unary.ensures c.in_ok-expr-in-Unary.ensures) last) c.put-in-Unary-2.ensures

pub expr-returns-in_ok-expr-in-None-2 : goal.expr-returns-in_ok-expr-in-None-2
expr-returns-in_ok-expr-in-None-2 t c =
    on_ok _ _ _ (λ last. binary_arm _ _ _ _ _ _ _ _ _ _ _ _ c.in-Binary.is
    (sym c.in-None.is ∙ c.goes_right_on.ensures) c.in_ok-put-in-None.ensures
    (as_expr c.get-in-None.ensures c.in_ok-expr-in-None.ensures)
    (as_expr c.get-in-None-2.ensures c.in_ok-expr-in-None-2.ensures) last)
    c.put-in-None-2.ensures

pub expr-returns-in_ok-expr-in-Some : goal.expr-returns-in_ok-expr-in-Some
expr-returns-in_ok-expr-in-Some t c =
    on_ok _ _ _ (λ last. short_arm _ _ _ _ _ _ _ _ _ _ _ _ _ c.in-Binary.is
    (sym c.in-Some.is ∙ c.goes_right_on.ensures)
    (as_block c.get-in-Some.ensures c.in_ok-block-in-Some.ensures)
    c.in_ok-put-in-Some.ensures
    (as_expr c.get-in-Some-2.ensures c.in_ok-expr-in-Some.ensures) last)
    c.put-in-Some-2.ensures

pub expr-returns-in_ok-expr-in-Cond : goal.expr-returns-in_ok-expr-in-Cond
expr-returns-in_ok-expr-in-Cond t c =
    on_ok _ _ _ (λ last. cond_arm _ _ _ _ _ _ _ _ _ _ _ _ _ _ c.in-Cond.is
    (as_block c.get-in-Cond.ensures c.in_ok-chosen-in-Cond.ensures)
    (as_block c.get-in-Cond-2.ensures c.in_ok-other-in-Cond.ensures)
    c.in_ok-put-in-Cond.ensures
    (as_expr c.get-in-Cond-3.ensures c.in_ok-expr-in-Cond.ensures) last)
    c.put-in-Cond-2.ensures

pub expr-returns-in_ok-make-in-Lambda : goal.expr-returns-in_ok-make-in-Lambda
expr-returns-in_ok-make-in-Lambda t c =
    on_ok _ _ _ (λ last. lambda_arm _ _ _ _ _ _ c.in-Lambda.is c.in_ok-make-in-Lambda.ensures last)
    c.put-in-Lambda.ensures

pub expr-returns-in_ok-expr-in-Attr : goal.expr-returns-in_ok-expr-in-Attr
expr-returns-in_ok-expr-in-Attr t c =
    on_ok _ _ _ (λ last. attribute_arm _ _ _ _ _ _ _ _ _ _ _ c.in-Attr.is
    c.in_ok-index-in-Attr.ensures c.in_ok-put-in-Attr.ensures
    (as_expr c.get-in-Attr.ensures c.in_ok-expr-in-Attr.ensures) last) c.put-in-Attr-2.ensures

pub expr-returns-in_ok-expr-in-Index-2 : goal.expr-returns-in_ok-expr-in-Index-2
expr-returns-in_ok-expr-in-Index-2 t c =
    on_ok _ _ _ (λ last. index_arm _ _ _ _ _ _ _ _ _ _ _ c.in-Index.is
    c.in_ok-put-in-Index.ensures
    (as_expr c.get-in-Index.ensures c.in_ok-expr-in-Index.ensures)
    (as_expr c.get-in-Index-2.ensures c.in_ok-expr-in-Index-2.ensures) last)
    c.put-in-Index-2.ensures

pub expr-returns-in_ok-expr-in-Slice : goal.expr-returns-in_ok-expr-in-Slice
expr-returns-in_ok-expr-in-Slice t c =
    on_ok _ _ _ (λ last. slice_arm _ _ _ _ _ _ _ _ _ _ _ _ _ _ _ _ _ c.in-Slice.is
    c.in_ok-put-in-Slice.ensures c.in_ok-bound-in-Slice.ensures c.in_ok-bound-in-Slice-2.ensures
    c.in_ok-bound-in-Slice-3.ensures
    (as_expr c.get-in-Slice.ensures c.in_ok-expr-in-Slice.ensures) last) c.put-in-Slice-2.ensures

pub expr-returns-in_ok-expr-in-Call : goal.expr-returns-in_ok-expr-in-Call
expr-returns-in_ok-expr-in-Call t c =
    on_ok _ _ _ (λ last. call_arm _ _ _ _ _ _ _ _ _ _ _ _ c.in-Call.is
    (as_call c.as_slice-in-Call.ensures c.in_ok-call-in-Call.ensures)
    (as_args c.as_slice-in-Call-2.ensures c.in_ok-args-in-Call.ensures)
    (as_expr c.get-in-Call.ensures c.in_ok-expr-in-Call.ensures) last) c.put-in-Call.ensures

pub expr_block-returns : goal.expr_block-returns
expr_block-returns t c =
    if_ok _ _ _ (λ block put. expr_block _ _ _ _ _ _ _ c.new-out.ensures c.in_ok-expr.ensures put)
    c.keep_block.ensures

pub exprs-exprs-init : goal.exprs-exprs-init
exprs-exprs-init t c = (omega arith, no_exprs c.args.exprs.now _ _)

pub exprs-exprs-preserved : goal.exprs-exprs-preserved
exprs-exprs-preserved t c = (
  omega arith,
  more_exprs c.args.exprs.now c.exprs.left _ _ _ _ _ _ _ (omega arith)
      (omega arith) c.index-exprs-left.is c.exprs.invariant.1 c.in_ok-expr.ensures,
)

pub pairs-pairs-init : goal.pairs-pairs-init
pairs-pairs-init t c = (omega arith, no_pairs c.args.pairs.now _ _)

pub pairs-pairs-preserved : goal.pairs-pairs-preserved
pairs-pairs-preserved t c = (
  omega arith,
  more_pairs c.args.pairs.now c.pairs.left _ _ _ _ _ _ _ _ _ _ (omega arith)
      (omega arith) c.index-pairs-left.is c.pairs.invariant.1 c.in_ok-put.ensures
      c.in_ok-expr.ensures c.in_ok-expr-2.ensures,
)

pub item_fill-returns : goal.item_fill-returns
item_fill-returns t c =
    item_fill _ _ _ _ _ _ c.new-fill.ensures c.in_ok-put.ensures c.in_ok-expr.ensures

pub comprehension-clauses-init : goal.comprehension-clauses-init
comprehension-clauses-init t c = (omega arith, λ some. some, none_written c.args.clauses.now _ _)

pub comprehension-clauses-preserved : goal.comprehension-clauses-preserved
comprehension-clauses-preserved t c = (
  omega arith,
  λ some. omega arith,
  one_written c.args.clauses.now c.clauses.left _ _ _ _ _ _ _ (omega arith) (omega arith)
      c.index-clauses-left.is c.clauses.invariant.2 c.in_ok-code.ensures,
)

pub comprehension-returns-in-None : goal.comprehension-returns-in-None
comprehension-returns-in-None t c =
    on_ok _ _ _ (λ last. comprehension_none _ _ _ _ _ _ _ _
    (no_first _ (sym c.first_of.ensures ∙ ap option_copied c.in-None.is))
    c.clauses.invariant.2 last) c.put.ensures

pub comprehension-returns-in-Some : goal.comprehension-returns-in-Some
comprehension-returns-in-Some t c =
    on_ok _ _ _ (λ last. comprehension_some _ _ _ _ _ _ _ _ _ _ _
    (first_there _ _ (sym c.first_of.ensures ∙ ap option_copied c.in-Some.is))
    c.clauses.invariant.0 (λ more. omega arith) c.clauses.invariant.1 c.clauses.invariant.2 last)
    c.first_clause.ensures

pub clause-returns-in_ok-expr-in-For : goal.clause-returns-in_ok-expr-in-For
clause-returns-in_ok-expr-in-For t c =
    each_clause _ _ _ _ _ _ _ _ _ _ _ c.in-For.is c.in_ok-block-in-For.ensures
    c.new-out.ensures c.in_ok-put-in-For.ensures c.in_ok-expr-in-For.ensures

pub clause-returns-in_ok-expr-in-If : goal.clause-returns-in_ok-expr-in-If
clause-returns-in_ok-expr-in-If t c =
    where_clause _ _ _ _ _ _ _ _ _ _ _ _ _ c.in-If.is c.in_ok-chosen-in-If.ensures
    c.new.ensures c.in_ok-other-in-If.ensures c.new-out-in-If.ensures
    c.in_ok-put-in-If.ensures c.in_ok-expr-in-If.ensures

pub turn-returns : goal.turn-returns
turn-returns t c =
    if_ok _ _ _ (λ block put. clause_turn _ _ _ _ _ _ _ _ refl c.in_ok-target.ensures put)
    c.keep_block.ensures

pub first_clause-returns-in_ok-put-in-For : goal.first_clause-returns-in_ok-put-in-For
first_clause-returns-in_ok-put-in-For t c =
    on_ok _ _ _ (λ last. first_each _ _ _ _ _ _ _ _ _ _ _ _ _ c.in-For.is
    c.in_ok-block-in-For.ensures c.in_ok-inside-in-For.ensures c.in_ok-put-in-For.ensures last)
    c.expr.ensures

pub first_clause-returns-in-If : goal.first_clause-returns-in-If
first_clause-returns-in-If t c =
    on_ok _ _ _ (λ last. first_where _ _ _ _ _ _ c.in-If.is last) c.put-in-If.ensures

pub target-returns-in-Name : goal.target-returns-in-Name
target-returns-in-Name t c =
    on_ok _ _ _ (λ last. name_target _ _ _ _ _ c.in-Name.is last) c.put.ensures

pub target-returns-in_ok-expr-in-Index : goal.target-returns-in_ok-expr-in-Index
target-returns-in_ok-expr-in-Index t c =
    on_ok _ _ _ (λ last. index_target _ _ _ _ _ _ _ _ _ _ c.in-Index.is
    c.in_ok-put-in-Index.ensures (as_expr c.get.ensures c.in_ok-expr-in-Index.ensures)
    (as_expr c.get-in-Index.ensures last)) c.expr-in-Index.ensures

pub target-returns-in_ok-targets-in-Many : goal.target-returns-in_ok-targets-in-Many
target-returns-in_ok-targets-in-Many t c =
    on_ok _ _ _ (λ last. many_targets _ _ _ _ _ _ _ _ c.in-Many.is
    (as_targets c.as_slice.ensures c.in_ok-targets-in-Many.ensures) c.len.ensures last)
    c.put-in-Many.ensures

pub targets-targets-init : goal.targets-targets-init
targets-targets-init t c = (omega arith, no_targets c.args.targets.now _ _)

pub targets-targets-preserved : goal.targets-targets-preserved
targets-targets-preserved t c = (
  omega arith,
  more_targets c.args.targets.now c.targets.left _ _ _ _ _ _ _ (omega arith)
      (omega arith) c.index-targets-left.is c.targets.invariant.1 c.in_ok-target.ensures,
)
