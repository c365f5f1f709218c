-- The free names that expressions use, in the order of the text: a conditional's branch stands
-- before its test, a comprehension's item before its clauses.
use Rattle.std.specs.Prelude.{List, [], ◌∷◌, map, Option, Some, None}
use Rattle.star_grammar.specs.declared.bare_expressions.BareArg.TheOpen.{BareArg-F, BareClause-F}
use Rattle.star_grammar.specs.declared.bare_expressions.BareArg.TheOpen.{BareExpr-F, BareParam-F}
use Rattle.star_grammar.specs.declared.bare_expressions.BareArg.TheOpen.{BarePair-F}
use Rattle.star_trees.specs.Variables.{Names, variables}
use Rattle.star_scopes.specs.declared.dialects.Dialect.{Dialect}
use Rattle.star_scopes.specs.Binds.{ClauseLayer, ExprLayer, ParamLayer}
use Rattle.star_scopes.specs.Meanings.{ArgMeaning, ClauseMeaning, ExprMeaning, PairMeaning}
use Rattle.star_scopes.specs.Meanings.{ParamMeaning}
use Rattle.star_scopes.specs.Uses.{Uses, ◌>>◌, no_use, each_uses, name_uses}

module _ (dialect : Dialect) (scopes : List Names) where
  unfoldable pub items_use : List ExprMeaning → Uses
  items_use items = each_uses (map (λ item. item.uses dialect scopes) items)

  unfoldable pub pairs_use : List PairMeaning → Uses
  pairs_use pairs = each_uses (map (λ pair. pair.uses dialect scopes) pairs)

  unfoldable pub args_use : List ArgMeaning → Uses
  args_use args = each_uses (map (λ arg. arg.uses dialect scopes) args)

  unfoldable pub params_use : List ParamMeaning → Uses
  params_use params = each_uses (map (λ param. param.uses dialect scopes) params)

  unfoldable pub maybe_uses : Option ExprMeaning → Uses
  maybe_uses None = no_use
  maybe_uses (Some bound) = bound.uses dialect scopes

  unfoldable pub two_use : ExprMeaning → ExprMeaning → Uses
  two_use one other = one.uses dialect scopes >> other.uses dialect scopes

  -- the operand of the first `in` stands outside the comprehension
  unfoldable pub clauses_use : List Names → List ClauseMeaning → Uses
  clauses_use inner [] = no_use
  clauses_use inner (first ∷ more) = first.uses dialect inner scopes >> each_uses
      (map (λ clause. clause.uses dialect inner inner) more)

  unfoldable pub list_comp_uses : ExprMeaning → List ClauseMeaning → Uses
  list_comp_uses item clauses =
      let inner = variables (map (λ clause. clause.bound) clauses) ∷ scopes in
      item.uses dialect inner >> clauses_use inner clauses

  unfoldable pub dict_comp_uses : ExprMeaning → ExprMeaning → List ClauseMeaning → Uses
  dict_comp_uses key value clauses =
      let inner = variables (map (λ clause. clause.bound) clauses) ∷ scopes in
      key.uses dialect inner >> (value.uses dialect inner >> clauses_use inner clauses)

  unfoldable pub cond_uses : ExprMeaning → ExprMeaning → ExprMeaning → Uses
  cond_uses test chosen other = chosen.uses dialect scopes >> two_use test other

  -- the defaults stand outside the function
  unfoldable pub lambda_uses : List ParamMeaning → ExprMeaning → Uses
  lambda_uses params body = params_use params >> body.uses dialect
      (variables (map (λ param. param.bound) params) ∷ scopes)

  unfoldable pub slice_uses : ExprMeaning
      → Option ExprMeaning
      → Option ExprMeaning
      → Option ExprMeaning
      → Uses
  slice_uses container begin end step = container.uses dialect scopes >>
      (maybe_uses begin >> (maybe_uses end >> maybe_uses step))

  unfoldable pub call_uses : ExprMeaning → List ArgMeaning → Uses
  call_uses function args = function.uses dialect scopes >> args_use args

abbrev pub expr_uses : ExprLayer → Dialect → List Names → Uses
expr_uses (BareExpr-F.Name name) dialect scopes = name_uses name dialect scopes
expr_uses (BareExpr-F.Int value) dialect scopes = no_use
expr_uses (BareExpr-F.Text text) dialect scopes = no_use
expr_uses (BareExpr-F.List items) dialect scopes = items_use dialect scopes items
expr_uses (BareExpr-F.Tuple items) dialect scopes = items_use dialect scopes items
expr_uses (BareExpr-F.Dict pairs) dialect scopes = pairs_use dialect scopes pairs
expr_uses (BareExpr-F.ListComp item clauses) dialect scopes = list_comp_uses dialect scopes item
    clauses
expr_uses (BareExpr-F.DictComp key value clauses) dialect scopes = dict_comp_uses dialect scopes key
    value clauses
expr_uses (BareExpr-F.Bracketed inside) dialect scopes = inside.uses dialect scopes
expr_uses (BareExpr-F.Unary op operand) dialect scopes = operand.uses dialect scopes
expr_uses (BareExpr-F.Binary op left right) dialect scopes = two_use dialect scopes left right
expr_uses (BareExpr-F.Cond test chosen other) dialect scopes = cond_uses dialect scopes test chosen
    other
expr_uses (BareExpr-F.Lambda params body line) dialect scopes = lambda_uses dialect scopes params
    body
expr_uses (BareExpr-F.Attr container name) dialect scopes = container.uses dialect scopes
expr_uses (BareExpr-F.Index container at) dialect scopes = two_use dialect scopes container at
expr_uses (BareExpr-F.Slice container begin end step) dialect scopes = slice_uses dialect scopes
    container begin end step
expr_uses (BareExpr-F.Call function args) dialect scopes = call_uses dialect scopes function args

abbrev pub arg_uses : BareArg-F ArgMeaning ClauseMeaning ExprMeaning ParamMeaning PairMeaning
    → Dialect
    → List Names
    → Uses
arg_uses (BareArg-F.Positional value) dialect scopes = value.uses dialect scopes
arg_uses (BareArg-F.Named name value) dialect scopes = value.uses dialect scopes
arg_uses (BareArg-F.Star value line) dialect scopes = value.uses dialect scopes
arg_uses (BareArg-F.DoubleStar value line) dialect scopes = value.uses dialect scopes

abbrev pub param_uses : ParamLayer → Dialect → List Names → Uses
param_uses (BareParam-F.Optional name default) dialect scopes = default.uses dialect scopes
param_uses _ dialect scopes = no_use

abbrev pub pair_uses : BarePair-F ArgMeaning ClauseMeaning ExprMeaning ParamMeaning PairMeaning
    → Dialect
    → List Names
    → Uses
pair_uses pair dialect scopes = two_use dialect scopes pair.key pair.value

abbrev pub clause_uses : ClauseLayer → Dialect → List Names → List Names → Uses
clause_uses (BareClause-F.For to over) dialect inner around = to.uses dialect inner >> over.uses
    dialect around
clause_uses (BareClause-F.If test) dialect inner around = test.uses dialect inner
