-- The indexes in what is made of statements.
use Rattle.std.proofs.Common.{ℕ, List, ◌∷◌, map, Option, Some, None, arith}
use Rattle.star_conditions.proofs.ExpressionIndexes.{of_each, expr-fine, param-fine}
use Rattle.star_conditions.proofs.MeaningInduction.{KindParts, StmtParts, meant-kind, meant-stmt}
use Rattle.star_conditions.proofs.MeaningInduction.{of-stmt}
use Rattle.star_conditions.proofs.Trees.{With, bare}
use Rattle.star_conditions.proofs.IndexesMade.{Good, pure-good, bind-good, then, each-good}
use Rattle.star_conditions.proofs.IndexesMade.{each-sure, begin-good, finish-good, load-good, none}
use Rattle.star_trees.proofs.Folds as is
use Rattle.star_trees.specs.Indexes.{functions_of_kind, functions_of_param, functions_of_stmt}
use Rattle.star_trees.specs.Indexes.{loads_of_kind, loads_of_stmt, stmt_indexes, load_indexes}
use Rattle.star_trees.specs.declared.trees.BinOp.{BinOp}
use Rattle.star_trees.specs.declared.trees.Stmt.{roll-Stmt}
use Rattle.star_trees.specs.declared.trees.StmtKind.{StmtKind}
use Rattle.star_trees.specs.declared.trees.StmtKind as st
use Rattle.star_grammar.specs.declared.bare_expressions.BareExpr.{BareExpr}
use Rattle.star_grammar.specs.declared.bare_expressions.BareName.{BareName}
use Rattle.star_grammar.specs.declared.bare_expressions.BareParam.{BareParam}
use Rattle.star_grammar.specs.declared.bare_statements.BareLoadName.{BareLoadName}
use Rattle.star_grammar.specs.declared.bare_statements.BareStmt.{BareStmt}
use Rattle.star_grammar.specs.declared.bare_statements.BareStmtKind.TheOpen.{BareStmtKind-F}
use Rattle.star_trees.specs.Variables.{Names, function_variables}
use Rattle.star_scopes.specs.ExprMaking.{params_made}
use Rattle.star_scopes.specs.ExprMeaning.{param_meaning}
use Rattle.star_scopes.specs.Making.{pure, finish}
use Rattle.star_scopes.specs.Meanings.{KindMeaning, StmtMeaning}
use Rattle.star_scopes.specs.Scopes.{variable}
use Rattle.star_scopes.specs.StatementMaking.{def_code, load_of, load_made, body_made, if_made}
use Rattle.star_scopes.specs.StatementMaking.{for_made, return_made, assign_made, augment_made}
use Rattle.star_scopes.specs.StatementMaking.{value_made, def_made, kind_made, stmt_made}
use Rattle.star_scopes.specs.StatementMeaning.{kind_meaning, kind_step, stmt_meaning, stmt_step}

pub record KindFine (m : KindMeaning) : Type 0 where
  pub kind : (line : ℕ) (free : Names) (scopes : List Names)
      → Good 0 0 functions_of_kind loads_of_kind (m.kind line free scopes)

pub record StmtFine (m : StmtMeaning) : Type 0 where
  pub stmt : (free : Names) (scopes : List Names)
      → Good 0 0 functions_of_stmt loads_of_stmt (m.stmt free scopes)

abbrev pub FineKind : Type 0
FineKind = With (λ tree. KindFine (kind_meaning tree))

abbrev pub FineStmt : Type 0
FineStmt = With (λ tree. StmtFine (stmt_meaning tree))

load-fine : (file : List ℕ) (names : List BareLoadName) (line : ℕ)
    → Good 0 0 functions_of_kind loads_of_kind (load_made file names line)
unfolding load_made
load-fine file names line =
    then (load-good 0 0 (load_of file names line)) (λ place i j _ _ _ there.
    pure-good i j functions_of_kind loads_of_kind (st.Load place)
    (omega (arith, is.fold_kind-Load stmt_indexes place))
    (omega (arith, is.fold_kind-Load load_indexes place)))

module _ (free : Names) (scopes : List Names) where
  all_params-fine : (params : List BareParam)
      → Good 0 0 (of_each functions_of_param) (of_each none)
      (params_made free scopes (map param_meaning params))
  unfolding params_made
  all_params-fine = each-sure functions_of_param none
      (λ param. param.param free scopes) param_meaning (λ tree. (param-fine tree).param free scopes)

  body-fine : (body : List FineStmt)
      → Good 0 0 (of_each functions_of_stmt) (of_each loads_of_stmt)
      (body_made free scopes (map stmt_meaning (map bare body)))
  unfolding body_made
  body-fine = each-good functions_of_stmt loads_of_stmt
      (λ statement. statement.stmt free scopes) stmt_meaning (λ tree fine. fine.stmt free scopes)

  if-fine : (test : BareExpr) (chosen other : List FineStmt)
      → Good 0 0 functions_of_kind loads_of_kind
      (if_made free scopes test (map stmt_meaning (map bare chosen))
      (map stmt_meaning (map bare other)))
  unfolding if_made
  if-fine test chosen other =
      then ((expr-fine test).expr free scopes) (λ made i j _ _ within _.
      then (body-fine chosen) (λ made_chosen k l up _ first first_loads.
      then (body-fine other) (λ made_other p q further more second second_loads.
      pure-good p q functions_of_kind loads_of_kind (st.If made made_chosen made_other)
      (omega (arith, is.fold_kind-If stmt_indexes made made_chosen made_other))
      (omega (arith, is.fold_kind-If load_indexes made made_chosen made_other)))))

  for-fine : (to over : BareExpr) (body : List FineStmt)
      → Good 0 0 functions_of_kind loads_of_kind
      (for_made free scopes to over (map stmt_meaning (map bare body)))
  unfolding for_made
  for-fine to over body =
      then ((expr-fine to).target free scopes) (λ made_to i j _ _ within _.
      then ((expr-fine over).expr free scopes) (λ made_over k l up _ also _.
      then (body-fine body) (λ made p q further more all all_loads.
      pure-good p q functions_of_kind loads_of_kind (st.For made_to made_over made)
      (omega (arith, is.fold_kind-For stmt_indexes made_to made_over made))
      (omega (arith, is.fold_kind-For load_indexes made_to made_over made)))))

  return-fine : (value : Option BareExpr)
      → Good 0 0 functions_of_kind loads_of_kind (return_made free scopes value)
  unfolding return_made
  return-fine None = pure-good 0 0 functions_of_kind loads_of_kind (st.Return None)
      (omega (arith, is.fold_kind-Return stmt_indexes None))
      (omega (arith, is.fold_kind-Return load_indexes None))
  return-fine (Some value) =
      then ((expr-fine value).expr free scopes) (λ made i j _ _ within _.
      pure-good i j functions_of_kind loads_of_kind (st.Return (Some made))
      (omega (arith, is.fold_kind-Return stmt_indexes (Some made)))
      (omega (arith, is.fold_kind-Return load_indexes (Some made))))

  assign-fine : (to value : BareExpr)
      → Good 0 0 functions_of_kind loads_of_kind (assign_made free scopes to value)
  unfolding assign_made
  assign-fine to value =
      then ((expr-fine to).target free scopes) (λ made_to i j _ _ within _.
      then ((expr-fine value).expr free scopes) (λ made k l up _ also _.
      pure-good k l functions_of_kind loads_of_kind (st.Assign made_to made)
      (omega (arith, is.fold_kind-Assign stmt_indexes made_to made))
      (omega (arith, is.fold_kind-Assign load_indexes made_to made))))

  augment-fine : (place : BareExpr) (op : BinOp) (value : BareExpr)
      → Good 0 0 functions_of_kind loads_of_kind (augment_made free scopes place op value)
  unfolding augment_made
  augment-fine place op value =
      then ((expr-fine place).expr free scopes) (λ made_place i j _ _ within _.
      then ((expr-fine value).expr free scopes) (λ made k l up _ also _.
      pure-good k l functions_of_kind loads_of_kind (st.Augment made_place op made)
      (omega (arith, is.fold_kind-Augment stmt_indexes made_place op made))
      (omega (arith, is.fold_kind-Augment load_indexes made_place op made))))

  value-fine : (value : BareExpr)
      → Good 0 0 functions_of_kind loads_of_kind (value_made free scopes value)
  unfolding value_made
  value-fine value =
      then ((expr-fine value).expr free scopes) (λ made i j _ _ within _.
      pure-good i j functions_of_kind loads_of_kind (st.Value made)
      (omega (arith, is.fold_kind-Value stmt_indexes made))
      (omega (arith, is.fold_kind-Value load_indexes made)))

def-fine : (free : Names) (scopes : List Names) (name : BareName) (params : List BareParam)
    (body : List FineStmt) (line : ℕ)
    → Good 0 0 functions_of_kind loads_of_kind
    (def_made free scopes name params (map stmt_meaning (map bare body)) line)
unfolding def_made
def-fine free scopes name params body line =
    let inner = function_variables (map (λ param. param.bound) (map param_meaning params))
    (map (λ one. one.bound) (map stmt_meaning (map bare body))) ∷ scopes in
    let to = variable free scopes name.name in
    then (begin-good 0 0) (λ place i j _ _ there _.
    then (all_params-fine free scopes params) (λ made_params k l up _ first _.
    then (body-fine free inner body) (λ made p q further _ second loaded.
    bind-good p q none none functions_of_kind loads_of_kind
    (finish place (def_code name.name made_params made line)) (λ _. pure (st.Def place to))
    (finish-good p q place (def_code name.name made_params made line) (omega arith) loaded)
    (λ _ g h more _ _ _.
    pure-good g h functions_of_kind loads_of_kind (st.Def place to)
    (omega (arith, is.fold_kind-Def stmt_indexes place to))
    (omega (arith, is.fold_kind-Def load_indexes place to))))))

-- ---- a construct of fine parts is fine

kind-layer : (layer : KindParts KindFine StmtFine) (line : ℕ) (free : Names) (scopes : List Names)
    → Good 0 0 functions_of_kind loads_of_kind
    (kind_made (meant-kind KindFine StmtFine layer) line free scopes)
kind-layer (BareStmtKind-F.Def name params body) line free scopes = def-fine free scopes name params
    body line
kind-layer (BareStmtKind-F.If test chosen other) line free scopes = if-fine free scopes test chosen
    other
kind-layer (BareStmtKind-F.For to over body) line free scopes = for-fine free scopes to over body
kind-layer (BareStmtKind-F.Return value) line free scopes = return-fine free scopes value
kind-layer BareStmtKind-F.Break line free scopes = pure-good 0 0 functions_of_kind loads_of_kind
    st.Break (omega (arith, is.fold_kind-Break stmt_indexes))
    (omega (arith, is.fold_kind-Break load_indexes))
kind-layer BareStmtKind-F.Continue line free scopes = pure-good 0 0 functions_of_kind loads_of_kind
    st.Continue (omega (arith, is.fold_kind-Continue stmt_indexes))
    (omega (arith, is.fold_kind-Continue load_indexes))
kind-layer BareStmtKind-F.Pass line free scopes = pure-good 0 0 functions_of_kind loads_of_kind
    st.Pass (omega (arith, is.fold_kind-Pass stmt_indexes))
    (omega (arith, is.fold_kind-Pass load_indexes))
kind-layer (BareStmtKind-F.Load file names) line free scopes = load-fine file names line
kind-layer (BareStmtKind-F.Assign to value) line free scopes = assign-fine free scopes to value
kind-layer (BareStmtKind-F.Augment place op value) line free scopes = augment-fine free scopes place
    op value
kind-layer (BareStmtKind-F.Value value) line free scopes = value-fine free scopes value

stmt-layer : (kind : FineKind) (line : ℕ) (free : Names) (scopes : List Names)
    → Good 0 0 functions_of_stmt loads_of_stmt (stmt_made (kind_meaning kind.0) line free scopes)
unfolding stmt_made
stmt-layer kind line free scopes =
    then (kind.1.kind line free scopes) (λ made i j _ _ within loaded.
    pure-good i j functions_of_stmt loads_of_stmt (roll-Stmt (record { line = line; kind = made }))
    (omega (arith, is.fold_stmt-roll stmt_indexes line made))
    (omega (arith, is.fold_stmt-roll load_indexes line made)))

-- ---- each tree is fine

kind-fine : (layer : KindParts KindFine StmtFine)
    → KindFine (kind_step (meant-kind KindFine StmtFine layer))
kind-fine layer = record { kind = kind-layer layer }

layer-fine : (layer : StmtParts KindFine StmtFine)
    → StmtFine (stmt_step (meant-stmt KindFine StmtFine layer))
layer-fine layer = record { stmt = stmt-layer layer.kind layer.line }

pub stmt-fine : (tree : BareStmt) → StmtFine (stmt_meaning tree)
stmt-fine = of-stmt KindFine StmtFine kind-fine layer-fine

pub all-fine : (free : Names) (scopes : List Names) (body : List BareStmt)
    → Good 0 0 (of_each functions_of_stmt) (of_each loads_of_stmt)
    (body_made free scopes (map stmt_meaning body))
unfolding body_made
all-fine free scopes = each-sure functions_of_stmt loads_of_stmt
    (λ statement. statement.stmt free scopes) stmt_meaning
    (λ tree. (stmt-fine tree).stmt free scopes)
