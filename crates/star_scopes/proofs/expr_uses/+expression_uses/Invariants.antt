use Rattle.std.proofs.Common.{◌≡◌, drop, map, max, ◌+◌, ◌*◌}
use Rattle.star_grammar.specs.declared.bare_expressions.BareExpr.{size-BareExpr}
use Rattle.star_scopes.specs.ExprMeaning.{arg_meaning, clause_meaning, meaning, pair_meaning}
use Rattle.star_scopes.specs.ExprMeaning.{param_meaning}
use Rattle.star_scopes.specs.ExprUses as spec
use Rattle.star_scopes.specs.Meanings.{ArgMeaning, ClauseMeaning, ExprMeaning, PairMeaning}
use Rattle.star_scopes.specs.Meanings.{ParamMeaning}
use Rattle.star_scopes.specs.Uses.{each_uses}
use Rattle.star_scopes.proofs.expr_uses.+expression_uses.Given as goal

abbrev pub decreases-expr_uses : goal.decreases-expr_uses
decreases-expr_uses l = 8 * goal.size-expr_uses l

abbrev pub decreases-items_use : goal.decreases-items_use
decreases-items_use l = 8 * goal.size-items_use l + 1

abbrev pub decreases-arg_uses : goal.decreases-arg_uses
decreases-arg_uses l = 8 * goal.size-arg_uses l + 1

abbrev pub decreases-param_uses : goal.decreases-param_uses
decreases-param_uses l = 8 * goal.size-param_uses l + 1

abbrev pub decreases-maybe_uses : goal.decreases-maybe_uses
decreases-maybe_uses l = 8 * goal.size-maybe_uses l + 1

abbrev pub decreases-two_use : goal.decreases-two_use
decreases-two_use l = 8 * max (size-BareExpr l.one.now) (size-BareExpr l.other.now) + 1

abbrev pub decreases-cond_uses : goal.decreases-cond_uses
decreases-cond_uses l = 8 * max (size-BareExpr l.test.now)
    (max (size-BareExpr l.chosen.now) (size-BareExpr l.other.now)) + 2

abbrev pub decreases-pair_uses : goal.decreases-pair_uses
decreases-pair_uses l = 8 * goal.size-pair_uses l + 2

abbrev pub decreases-pairs_use : goal.decreases-pairs_use
decreases-pairs_use l = 8 * goal.size-pairs_use l + 3

abbrev pub decreases-args_use : goal.decreases-args_use
decreases-args_use l = 8 * goal.size-args_use l + 3

abbrev pub decreases-params_use : goal.decreases-params_use
decreases-params_use l = 8 * goal.size-params_use l + 3

abbrev pub decreases-over_uses : goal.decreases-over_uses
decreases-over_uses l = 8 * goal.size-over_uses l + 1

abbrev pub decreases-clause_uses : goal.decreases-clause_uses
decreases-clause_uses l = 8 * goal.size-clause_uses l + 2

abbrev pub decreases-first_clause_uses : goal.decreases-first_clause_uses
decreases-first_clause_uses l = 8 * goal.size-first_clause_uses l + 2

abbrev pub decreases-more_clauses_use : goal.decreases-more_clauses_use
decreases-more_clauses_use l = 8 * goal.size-more_clauses_use l + 3

abbrev pub decreases-clauses_use : goal.decreases-clauses_use
decreases-clauses_use l = 8 * goal.size-clauses_use l + 4

abbrev pub decreases-call_uses : goal.decreases-call_uses
decreases-call_uses l = 8 * max (goal.size-call_uses l) (size-BareExpr l.function.now) + 4

abbrev pub decreases-lambda_uses : goal.decreases-lambda_uses
decreases-lambda_uses l = 8 * max (goal.size-lambda_uses l) (size-BareExpr l.body.now) + 4

abbrev pub decreases-list_comp_uses : goal.decreases-list_comp_uses
decreases-list_comp_uses l = 8 * max (goal.size-list_comp_uses l) (size-BareExpr l.item.now) + 5

abbrev pub decreases-dict_comp_uses : goal.decreases-dict_comp_uses
decreases-dict_comp_uses l = 8 * max (goal.size-dict_comp_uses l)
    (max (size-BareExpr l.key.now) (size-BareExpr l.value.now)) + 5

abbrev pub invariant-items_use-items : goal.invariant-items_use-items
invariant-items_use-items l =
    (l.scopes ≡ l.fn.scopes)
    × (spec.items_use l.dialect l.fn.scopes (map meaning l.items) l.fn.names
    ≡ each_uses (map (λ (one : ExprMeaning). one.uses l.dialect l.fn.scopes) (map meaning (drop
    l.item-index l.items))) l.names)

abbrev pub invariant-pairs_use-pairs : goal.invariant-pairs_use-pairs
invariant-pairs_use-pairs l =
    (l.scopes ≡ l.fn.scopes)
    × (spec.pairs_use l.dialect l.fn.scopes (map pair_meaning l.pairs) l.fn.names
    ≡ each_uses (map (λ (one : PairMeaning). one.uses l.dialect l.fn.scopes) (map pair_meaning
    (drop l.pair-index l.pairs))) l.names)

abbrev pub invariant-args_use-each : goal.invariant-args_use-each
invariant-args_use-each l =
    (l.scopes ≡ l.fn.scopes)
    × (spec.args_use l.dialect l.fn.scopes (map arg_meaning l.args) l.fn.names
    ≡ each_uses (map (λ (one : ArgMeaning). one.uses l.dialect l.fn.scopes) (map arg_meaning
    (drop l.arg-index l.args))) l.names)

abbrev pub invariant-params_use-params : goal.invariant-params_use-params
invariant-params_use-params l =
    (l.scopes ≡ l.fn.scopes)
    × (spec.params_use l.dialect l.fn.scopes (map param_meaning l.params) l.fn.names
    ≡ each_uses (map (λ (one : ParamMeaning). one.uses l.dialect l.fn.scopes) (map param_meaning
    (drop l.param-index l.params))) l.names)

abbrev pub invariant-more_clauses_use-clauses : goal.invariant-more_clauses_use-clauses
invariant-more_clauses_use-clauses l =
    (l.scopes ≡ l.fn.scopes)
    × (each_uses (map (λ (clause : ClauseMeaning). clause.uses l.dialect l.fn.scopes l.fn.scopes)
    (map clause_meaning l.clauses)) l.fn.names
    ≡ each_uses (map (λ (clause : ClauseMeaning). clause.uses l.dialect l.fn.scopes l.fn.scopes)
    (map clause_meaning (drop l.clause-index l.clauses))) l.names)
