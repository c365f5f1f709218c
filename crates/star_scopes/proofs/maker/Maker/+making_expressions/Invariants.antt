use Rattle.std.proofs.Common.{◌≡◌, drop, map, max, ◌+◌, ◌*◌}
use Rattle.star_grammar.specs.declared.bare_expressions.BareClause.{size-BareClause}
use Rattle.star_grammar.specs.declared.bare_expressions.BareExpr.{size-BareExpr}
use Rattle.star_trees.specs.Variables.{outer}
use Rattle.star_scopes.specs.ExprMaking as spec
use Rattle.star_scopes.specs.ExprMeaning.{arg_meaning, clause_meaning, meaning, pair_meaning}
use Rattle.star_scopes.specs.ExprMeaning.{param_meaning}
use Rattle.star_scopes.specs.Making.{each, prepended}
use Rattle.star_scopes.specs.Meanings.{ArgMeaning, ClauseMeaning, ExprMeaning, PairMeaning}
use Rattle.star_scopes.specs.Meanings.{ParamMeaning}
use Rattle.star_scopes.proofs.maker.Maker.+making_expressions.Given as goal

abbrev pub decreases-expr : goal.decreases-expr
decreases-expr l = 16 * goal.size-expr l

abbrev pub decreases-target : goal.decreases-target
decreases-target l = 16 * goal.size-target l

abbrev pub decreases-boxed : goal.decreases-boxed
decreases-boxed l = 16 * goal.size-boxed l + 1

abbrev pub decreases-maybe : goal.decreases-maybe
decreases-maybe l = 16 * goal.size-maybe l + 3

abbrev pub decreases-items_made : goal.decreases-items_made
decreases-items_made l = 16 * goal.size-items_made l + 3

abbrev pub decreases-targets_made : goal.decreases-targets_made
decreases-targets_made l = 16 * goal.size-targets_made l + 3

abbrev pub decreases-arg : goal.decreases-arg
decreases-arg l = 16 * goal.size-arg l + 3

abbrev pub decreases-named_arg : goal.decreases-named_arg
decreases-named_arg l = 16 * goal.size-named_arg l + 3

abbrev pub decreases-param : goal.decreases-param
decreases-param l = 16 * goal.size-param l + 3

abbrev pub decreases-optional : goal.decreases-optional
decreases-optional l = 16 * goal.size-optional l + 3

abbrev pub decreases-unary : goal.decreases-unary
decreases-unary l = 16 * goal.size-unary l + 3

abbrev pub decreases-attr : goal.decreases-attr
decreases-attr l = 16 * goal.size-attr l + 3

abbrev pub decreases-over : goal.decreases-over
decreases-over l = 16 * goal.size-over l + 3

abbrev pub decreases-binary : goal.decreases-binary
decreases-binary l = 16 * max (size-BareExpr l.left.now) (size-BareExpr l.right.now) + 2

abbrev pub decreases-index : goal.decreases-index
decreases-index l = 16 * max (size-BareExpr l.container.now) (size-BareExpr l.at.now) + 2

abbrev pub decreases-index_target : goal.decreases-index_target
decreases-index_target l = 16 * max (size-BareExpr l.container.now) (size-BareExpr l.at.now) + 2

abbrev pub decreases-cond : goal.decreases-cond
decreases-cond l = 16 * max (size-BareExpr l.test.now)
    (max (size-BareExpr l.chosen.now) (size-BareExpr l.other.now)) + 2

abbrev pub decreases-pair : goal.decreases-pair
decreases-pair l = 16 * goal.size-pair l + 4

abbrev pub decreases-pairs_made : goal.decreases-pairs_made
decreases-pairs_made l = 16 * goal.size-pairs_made l + 5

abbrev pub decreases-args_made : goal.decreases-args_made
decreases-args_made l = 16 * goal.size-args_made l + 5

abbrev pub decreases-params_made : goal.decreases-params_made
decreases-params_made l = 16 * goal.size-params_made l + 5

abbrev pub decreases-clause : goal.decreases-clause
decreases-clause l = 16 * goal.size-clause l + 4

abbrev pub decreases-first_clause : goal.decreases-first_clause
decreases-first_clause l = 16 * goal.size-first_clause l + 4

abbrev pub decreases-more_clauses : goal.decreases-more_clauses
decreases-more_clauses l = 16 * goal.size-more_clauses l + 5

abbrev pub decreases-clauses : goal.decreases-clauses
decreases-clauses l = 16 * goal.size-clauses l + 7

abbrev pub decreases-some_clauses : goal.decreases-some_clauses
decreases-some_clauses l = 16 * max (goal.size-some_clauses l) (size-BareClause l.first.now) + 6

abbrev pub decreases-call : goal.decreases-call
decreases-call l = 16 * max (goal.size-call l) (size-BareExpr l.function.now) + 6

abbrev pub decreases-lambda : goal.decreases-lambda
decreases-lambda l = 16 * max (goal.size-lambda l) (size-BareExpr l.body.now) + 6

abbrev pub decreases-list_comp : goal.decreases-list_comp
decreases-list_comp l = 16 * max (goal.size-list_comp l) (size-BareExpr l.item.now) + 8

abbrev pub decreases-dict_comp : goal.decreases-dict_comp
decreases-dict_comp l = 16 * max (goal.size-dict_comp l)
    (max (size-BareExpr l.key.now) (size-BareExpr l.value.now)) + 8

abbrev pub invariant-items_made-items : goal.invariant-items_made-items
invariant-items_made-items l =
    (l.self.free ≡ l.fn.self.free)
    × (l.self.scopes ≡ l.fn.self.scopes)
    × (spec.items_made l.fn.self.free l.fn.self.scopes (map meaning l.items) l.fn.self.lists
    ≡ prepended l.made.items
    (each (map (λ (one : ExprMeaning). one.expr l.fn.self.free l.fn.self.scopes) (map meaning
    (drop l.item-index l.items))) l.self.lists))

abbrev pub invariant-targets_made-targets : goal.invariant-targets_made-targets
invariant-targets_made-targets l =
    (l.self.free ≡ l.fn.self.free)
    × (l.self.scopes ≡ l.fn.self.scopes)
    × (spec.targets_made l.fn.self.free l.fn.self.scopes (map meaning l.targets) l.fn.self.lists
    ≡ prepended l.made.items
    (each (map (λ (one : ExprMeaning). one.target l.fn.self.free l.fn.self.scopes) (map meaning
    (drop l.target-index l.targets))) l.self.lists))

abbrev pub invariant-pairs_made-pairs : goal.invariant-pairs_made-pairs
invariant-pairs_made-pairs l =
    (l.self.free ≡ l.fn.self.free)
    × (l.self.scopes ≡ l.fn.self.scopes)
    × (spec.pairs_made l.fn.self.free l.fn.self.scopes (map pair_meaning l.pairs) l.fn.self.lists
    ≡ prepended l.made.items
    (each (map (λ (one : PairMeaning). one.pair l.fn.self.free l.fn.self.scopes) (map
    pair_meaning (drop l.pair-index l.pairs))) l.self.lists))

abbrev pub invariant-args_made-each : goal.invariant-args_made-each
invariant-args_made-each l =
    (l.self.free ≡ l.fn.self.free)
    × (l.self.scopes ≡ l.fn.self.scopes)
    × (spec.args_made l.fn.self.free l.fn.self.scopes (map arg_meaning l.args) l.fn.self.lists
    ≡ prepended l.made.items
    (each (map (λ (one : ArgMeaning). one.arg l.fn.self.free l.fn.self.scopes) (map arg_meaning
    (drop l.arg-index l.args))) l.self.lists))

abbrev pub invariant-params_made-params : goal.invariant-params_made-params
invariant-params_made-params l =
    (l.self.free ≡ l.fn.self.free)
    × (l.self.scopes ≡ l.fn.self.scopes)
    × (spec.params_made l.fn.self.free l.fn.self.scopes (map param_meaning l.params) l.fn.self.lists
    ≡ prepended l.made.items
    (each (map (λ (one : ParamMeaning). one.param l.fn.self.free l.fn.self.scopes) (map
    param_meaning (drop l.param-index l.params))) l.self.lists))

abbrev pub invariant-more_clauses-clauses : goal.invariant-more_clauses-clauses
invariant-more_clauses-clauses l =
    (l.self.free ≡ l.fn.self.free)
    × (l.self.scopes ≡ l.fn.self.scopes)
    × (spec.more_clauses_made l.fn.self.free (outer l.fn.self.scopes) l.fn.self.scopes
    (map clause_meaning l.clauses) l.fn.self.lists
    ≡ prepended l.made.items
    (each (map (λ (one : ClauseMeaning). one.clause l.fn.self.free l.fn.self.scopes
    l.fn.self.scopes) (map clause_meaning (drop l.clause-index l.clauses))) l.self.lists))
