-- The trees that are made of statements, in the order of the text: each function takes its place
-- where it begins.
use Rattle.std.specs.Prelude.{ℕ, List, ◌∷◌, map, Option, Some, None}
use Rattle.star_trees.specs.declared.files.FnBody.TheVariants as body_tree
use Rattle.star_trees.specs.declared.files.FnCode.{FnCode}
use Rattle.star_trees.specs.declared.files.Param.{Param}
use Rattle.star_trees.specs.declared.loads.Load.{Load}
use Rattle.star_trees.specs.declared.trees.BinOp.{BinOp}
use Rattle.star_trees.specs.declared.trees.Stmt.{Stmt, roll-Stmt}
use Rattle.star_trees.specs.declared.trees.StmtKind.{StmtKind}
use Rattle.star_trees.specs.declared.trees.StmtKind as st
use Rattle.star_grammar.specs.declared.bare_expressions.BareExpr.{BareExpr}
use Rattle.star_grammar.specs.declared.bare_expressions.BareName.{BareName}
use Rattle.star_grammar.specs.declared.bare_expressions.BareParam.{BareParam}
use Rattle.star_grammar.specs.declared.bare_statements.BareLoadName.{BareLoadName}
use Rattle.star_grammar.specs.declared.bare_statements.BareStmtKind.TheOpen.{BareStmtKind-F}
use Rattle.star_trees.specs.Variables.{Names, function_variables}
use Rattle.star_scopes.specs.ExprMaking.{params_made}
use Rattle.star_scopes.specs.ExprMeaning.{meaning, param_meaning}
use Rattle.star_scopes.specs.Making.{Making, ◌>>=◌, ◌>>◌, pure, each, begin, finish, load}
use Rattle.star_scopes.specs.Meanings.{KindMeaning, StmtMeaning}
use Rattle.star_scopes.specs.Scopes.{variable}

-- the code of a `def`
abbrev pub def_code : List ℕ → List Param → List Stmt → ℕ → FnCode
def_code name params body line = record
    { name = Some name; params = params; body = body_tree.Block body; line = line }

-- a `load` statement on a line
abbrev pub load_of : List ℕ → List BareLoadName → ℕ → Load
load_of file names line = record {
  file = file;
  names = map
      (λ (loaded : BareLoadName). loaded.name) names;
  line = line;
}

unfoldable pub load_made : List ℕ → List BareLoadName → ℕ → Making StmtKind
load_made file names line = do
  place ← load (load_of file names line)
  pure (st.Load place)

module _ (free : Names) (scopes : List Names) where
  unfoldable pub body_made : List StmtMeaning → Making (List Stmt)
  body_made body = each (map (λ statement. statement.stmt free scopes) body)

  unfoldable pub if_made : BareExpr → List StmtMeaning → List StmtMeaning → Making StmtKind
  if_made test chosen other = do
    made_test ← (meaning test).expr free scopes
    made_chosen ← body_made chosen
    made_other ← body_made other
    pure (st.If made_test made_chosen made_other)

  unfoldable pub for_made : BareExpr → BareExpr → List StmtMeaning → Making StmtKind
  for_made to over body = do
    made_to ← (meaning to).target free scopes
    made_over ← (meaning over).expr free scopes
    made ← body_made body
    pure (st.For made_to made_over made)

  unfoldable pub return_made : Option BareExpr → Making StmtKind
  return_made None = pure (st.Return None)
  return_made (Some value) = do
    made ← (meaning value).expr free scopes
    pure (st.Return (Some made))

  unfoldable pub assign_made : BareExpr → BareExpr → Making StmtKind
  assign_made to value = do
    made_to ← (meaning to).target free scopes
    made ← (meaning value).expr free scopes
    pure (st.Assign made_to made)

  unfoldable pub augment_made : BareExpr → BinOp → BareExpr → Making StmtKind
  augment_made place op value = do
    made_place ← (meaning place).expr free scopes
    made ← (meaning value).expr free scopes
    pure (st.Augment made_place op made)

  unfoldable pub value_made : BareExpr → Making StmtKind
  value_made value = do
    made ← (meaning value).expr free scopes
    pure (st.Value made)

-- the defaults stand outside the function
unfoldable pub def_made : Names
    → List Names
    → BareName
    → List BareParam
    → List StmtMeaning
    → ℕ
    → Making StmtKind
def_made free scopes name params body line = do
  place ← begin
  made_params ← params_made free scopes (map param_meaning params)
  made ← body_made free
      (function_variables (map (λ param. param.bound) (map param_meaning params))
      (map (λ (one : StmtMeaning). one.bound) body) ∷ scopes) body
  finish place (def_code name.name made_params made line)
  pure (st.Def place (variable free scopes name.name))

abbrev pub kind_made : BareStmtKind-F KindMeaning StmtMeaning
    → ℕ
    → Names
    → List Names
    → Making StmtKind
kind_made (BareStmtKind-F.Def name params body) line free scopes = def_made free scopes name params
    body line
kind_made (BareStmtKind-F.If test chosen other) line free scopes = if_made free scopes test chosen
    other
kind_made (BareStmtKind-F.For to over body) line free scopes = for_made free scopes to over body
kind_made (BareStmtKind-F.Return value) line free scopes = return_made free scopes value
kind_made BareStmtKind-F.Break line free scopes = pure st.Break
kind_made BareStmtKind-F.Continue line free scopes = pure st.Continue
kind_made BareStmtKind-F.Pass line free scopes = pure st.Pass
kind_made (BareStmtKind-F.Load file names) line free scopes = load_made file names line
kind_made (BareStmtKind-F.Assign to value) line free scopes = assign_made free scopes to value
kind_made (BareStmtKind-F.Augment place op value) line free scopes = augment_made free scopes place
    op value
kind_made (BareStmtKind-F.Value value) line free scopes = value_made free scopes value

-- a statement on its line
unfoldable pub stmt_made : KindMeaning → ℕ → Names → List Names → Making Stmt
stmt_made kind line free scopes = do
  made ← kind.kind line free scopes
  pure (roll-Stmt (record { line = line; kind = made }))
