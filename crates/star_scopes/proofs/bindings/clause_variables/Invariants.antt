use Rattle.std.proofs.Common.{◌≡◌, drop, map}
use Rattle.star_trees.specs.Variables.{each_binds, variables}
use Rattle.star_scopes.specs.ExprMeaning.{clause_meaning}
use Rattle.star_scopes.specs.Meanings.{ClauseMeaning}
use Rattle.star_scopes.proofs.bindings.clause_variables.Given as goal

abbrev pub invariant-clauses : goal.invariant-clauses
invariant-clauses l =
    variables (map (λ (one : ClauseMeaning). one.bound) (map clause_meaning l.clauses))
    ≡ each_binds (map (λ (one : ClauseMeaning). one.bound) (map clause_meaning (drop l.clause-index
    l.clauses))) l.names
