-- What targets, parameters and clauses bind.
use Rattle.std.specs.Prelude.{map}
use Rattle.star_grammar.specs.declared.bare_expressions.BareArg.TheOpen.{BareClause-F, BareExpr-F}
use Rattle.star_grammar.specs.declared.bare_expressions.BareArg.TheOpen.{BareParam-F}
use Rattle.star_trees.specs.Variables.{Binding, no_binding, each_binds, name_binds}
use Rattle.star_scopes.specs.Meanings.{ArgMeaning, ClauseMeaning, ExprMeaning, PairMeaning}
use Rattle.star_scopes.specs.Meanings.{ParamMeaning}

-- an expression, a parameter and a clause, opened once
abbrev pub ExprLayer : Type 0
ExprLayer = BareExpr-F ArgMeaning ClauseMeaning ExprMeaning ParamMeaning PairMeaning

abbrev pub ParamLayer : Type 0
ParamLayer = BareParam-F ArgMeaning ClauseMeaning ExprMeaning ParamMeaning PairMeaning

abbrev pub ClauseLayer : Type 0
ClauseLayer = BareClause-F ArgMeaning ClauseMeaning ExprMeaning ParamMeaning PairMeaning

-- targets, from left to right
abbrev pub target_binds : ExprLayer → Binding
target_binds (BareExpr-F.Name name) = name_binds name.name
target_binds (BareExpr-F.Bracketed target) = target.bound
target_binds (BareExpr-F.Tuple targets) = each_binds (map (λ target. target.bound) targets)
target_binds (BareExpr-F.List targets) = each_binds (map (λ target. target.bound) targets)
target_binds _ = no_binding

abbrev pub param_binds : ParamLayer → Binding
param_binds (BareParam-F.Required name) = name_binds name
param_binds (BareParam-F.Optional name default) = name_binds name
param_binds (BareParam-F.Bare line) = no_binding
param_binds (BareParam-F.Rest name line) = name_binds name
param_binds (BareParam-F.Keywords name line) = name_binds name

abbrev pub clause_binds : ClauseLayer → Binding
clause_binds (BareClause-F.For to over) = to.bound
clause_binds (BareClause-F.If test) = no_binding
