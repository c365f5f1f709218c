-- What expressions, parameters and clauses mean where names are concerned.
use Rattle.star_grammar.specs.declared.bare_expressions.BareArg.TheOpen.{BareArg-F, BarePair-F}
use Rattle.star_grammar.specs.declared.bare_expressions.BareArg.{BareArg, fold-BareArg}
use Rattle.star_grammar.specs.declared.bare_expressions.BareClause.{BareClause, fold-BareClause}
use Rattle.star_grammar.specs.declared.bare_expressions.BareExpr.{BareExpr, fold-BareExpr}
use Rattle.star_grammar.specs.declared.bare_expressions.BarePair.{BarePair, fold-BarePair}
use Rattle.star_grammar.specs.declared.bare_expressions.BareParam.{BareParam, fold-BareParam}
use Rattle.star_scopes.specs.Binds.{ClauseLayer, ExprLayer, ParamLayer, clause_binds, param_binds}
use Rattle.star_scopes.specs.Binds.{target_binds}
use Rattle.star_scopes.specs.ExprMaking.{arg_made, clause_made, expr_made, pair_made, param_made}
use Rattle.star_scopes.specs.ExprMaking.{target_made}
use Rattle.star_scopes.specs.ExprUses.{arg_uses, clause_uses, expr_uses, pair_uses, param_uses}
use Rattle.star_scopes.specs.Meanings.{ArgMeaning, ClauseMeaning, ExprMeaning, PairMeaning}
use Rattle.star_scopes.specs.Meanings.{ParamMeaning}

abbrev pub expr_step : ExprLayer → ExprMeaning
expr_step layer = record {
  bound = target_binds layer;
  uses = expr_uses layer;
  expr = expr_made layer;
  target =
      target_made layer;
}

abbrev pub arg_step : BareArg-F ArgMeaning ClauseMeaning ExprMeaning ParamMeaning PairMeaning
    → ArgMeaning
arg_step layer = record { uses = arg_uses layer; arg = arg_made layer }

abbrev pub clause_step : ClauseLayer → ClauseMeaning
clause_step layer = record
    { bound = clause_binds layer; uses = clause_uses layer; clause = clause_made layer }

abbrev pub param_step : ParamLayer → ParamMeaning
param_step layer = record
    { bound = param_binds layer; uses = param_uses layer; param = param_made layer }

abbrev pub pair_step : BarePair-F ArgMeaning ClauseMeaning ExprMeaning ParamMeaning PairMeaning
    → PairMeaning
pair_step layer = record
    { uses = pair_uses layer; pair = λ free scopes. pair_made free scopes layer.key layer.value }

unfoldable pub meaning : BareExpr → ExprMeaning
meaning = fold-BareExpr ArgMeaning ClauseMeaning ExprMeaning ParamMeaning PairMeaning arg_step
    clause_step expr_step param_step pair_step

unfoldable pub arg_meaning : BareArg → ArgMeaning
arg_meaning = fold-BareArg ArgMeaning ClauseMeaning ExprMeaning ParamMeaning PairMeaning arg_step
    clause_step expr_step param_step pair_step

unfoldable pub clause_meaning : BareClause → ClauseMeaning
clause_meaning = fold-BareClause ArgMeaning ClauseMeaning ExprMeaning ParamMeaning PairMeaning
    arg_step clause_step expr_step param_step pair_step

unfoldable pub param_meaning : BareParam → ParamMeaning
param_meaning = fold-BareParam ArgMeaning ClauseMeaning ExprMeaning ParamMeaning PairMeaning
    arg_step clause_step expr_step param_step pair_step

unfoldable pub pair_meaning : BarePair → PairMeaning
pair_meaning = fold-BarePair ArgMeaning ClauseMeaning ExprMeaning ParamMeaning PairMeaning arg_step
    clause_step expr_step param_step pair_step
