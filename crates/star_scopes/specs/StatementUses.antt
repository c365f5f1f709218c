-- The free names that statements use, in the order of the text.
use Rattle.std.specs.Prelude.{List, ◌∷◌, map, Option, Some, None}
use Rattle.star_grammar.specs.declared.bare_expressions.BareExpr.{BareExpr}
use Rattle.star_grammar.specs.declared.bare_expressions.BareParam.{BareParam}
use Rattle.star_grammar.specs.declared.bare_statements.BareStmtKind.TheOpen.{BareStmtKind-F}
use Rattle.star_trees.specs.Variables.{Names, function_variables}
use Rattle.star_scopes.specs.declared.dialects.Dialect.{Dialect}
use Rattle.star_scopes.specs.ExprMeaning.{meaning, param_meaning}
use Rattle.star_scopes.specs.ExprUses.{params_use, two_use}
use Rattle.star_scopes.specs.Meanings.{KindMeaning, StmtMeaning}
use Rattle.star_scopes.specs.Uses.{Uses, ◌>>◌, no_use, each_uses}

module _ (dialect : Dialect) (scopes : List Names) where
  unfoldable pub body_uses : List StmtMeaning → Uses
  body_uses body = each_uses (map (λ statement. statement.uses dialect scopes) body)

  unfoldable pub if_uses : BareExpr → List StmtMeaning → List StmtMeaning → Uses
  if_uses test chosen other = (meaning test).uses dialect scopes >>
      (body_uses chosen >> body_uses other)

  unfoldable pub for_uses : BareExpr → BareExpr → List StmtMeaning → Uses
  for_uses to over body = two_use dialect scopes (meaning to) (meaning over) >> body_uses body

  unfoldable pub return_uses : Option BareExpr → Uses
  return_uses None = no_use
  return_uses (Some value) = (meaning value).uses dialect scopes

-- the defaults stand outside the function
unfoldable pub def_uses : Dialect → List Names → List BareParam → List StmtMeaning → Uses
def_uses dialect scopes params body =
    params_use dialect scopes (map param_meaning params)
    >> body_uses dialect
    (function_variables (map (λ param. param.bound) (map param_meaning params))
    (map (λ (one : StmtMeaning). one.bound) body) ∷ scopes) body

abbrev pub kind_uses : BareStmtKind-F KindMeaning StmtMeaning → Dialect → List Names → Uses
kind_uses (BareStmtKind-F.Def name params body) dialect scopes = def_uses dialect scopes params body
kind_uses (BareStmtKind-F.If test chosen other) dialect scopes = if_uses dialect scopes test chosen
    other
kind_uses (BareStmtKind-F.For to over body) dialect scopes = for_uses dialect scopes to over body
kind_uses (BareStmtKind-F.Return value) dialect scopes = return_uses dialect scopes value
kind_uses BareStmtKind-F.Break dialect scopes = no_use
kind_uses BareStmtKind-F.Continue dialect scopes = no_use
kind_uses BareStmtKind-F.Pass dialect scopes = no_use
kind_uses (BareStmtKind-F.Load file names) dialect scopes = no_use
kind_uses (BareStmtKind-F.Assign to value) dialect scopes = two_use dialect scopes (meaning to)
    (meaning value)
kind_uses (BareStmtKind-F.Augment place op value) dialect scopes = two_use dialect scopes
    (meaning place) (meaning value)
kind_uses (BareStmtKind-F.Value value) dialect scopes = (meaning value).uses dialect scopes
