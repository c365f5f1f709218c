use Rattle.std.proofs.Common.{◌≡◌, drop, map}
use Rattle.star_trees.specs.Variables.{each_binds}
use Rattle.star_scopes.specs.ExprMeaning.{meaning}
use Rattle.star_scopes.specs.Meanings.{ExprMeaning}
use Rattle.star_scopes.proofs.bindings.+binding_targets.Given as goal

abbrev pub invariant-with_targets-targets : goal.invariant-with_targets-targets
invariant-with_targets-targets l =
    each_binds (map (λ (one : ExprMeaning). one.bound) (map meaning l.targets)) l.fn.names
    ≡ each_binds (map (λ (one : ExprMeaning). one.bound) (map meaning (drop l.target-index
    l.targets))) l.names
