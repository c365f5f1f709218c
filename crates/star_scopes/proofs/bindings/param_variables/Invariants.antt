use Rattle.std.proofs.Common.{◌≡◌, drop, map}
use Rattle.star_trees.specs.Variables.{each_binds, variables}
use Rattle.star_scopes.specs.ExprMeaning.{param_meaning}
use Rattle.star_scopes.specs.Meanings.{ParamMeaning}
use Rattle.star_scopes.proofs.bindings.param_variables.Given as goal

abbrev pub invariant-params : goal.invariant-params
invariant-params l =
    variables (map (λ (one : ParamMeaning). one.bound) (map param_meaning l.params))
    ≡ each_binds (map (λ (one : ParamMeaning). one.bound) (map param_meaning (drop l.param-index
    l.params))) l.names
