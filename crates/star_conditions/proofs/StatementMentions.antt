-- The functions of which speaks what is made of statements.
use Rattle.std.proofs.Common.{ℕ, true, List, [], ◌∷◌, ◌++◌, map, Option, Some, None, refl}
use Rattle.star_conditions.proofs.ExpressionMentions.{of_each, expr-tells, param-tells}
use Rattle.star_conditions.proofs.MeaningInduction.{KindParts, StmtParts, meant-kind, meant-stmt}
use Rattle.star_conditions.proofs.MeaningInduction.{of-stmt}
use Rattle.star_conditions.proofs.Trees.{With, bare}
use Rattle.star_conditions.proofs.MentionsMade.{Tells, then, done, each-tells, each-surely}
use Rattle.star_conditions.proofs.MentionsMade.{function-tells, load-tells}
use Rattle.star_trees.proofs.Folds as is
use Rattle.star_trees.specs.Mentions.{mentions_of_kind, mentions_of_param, mentions_of_stmt}
use Rattle.star_trees.specs.Mentions.{stmts_mention}
use Rattle.star_trees.specs.declared.files.Param.{Param}
use Rattle.star_trees.specs.declared.trees.Stmt.{Stmt}
use Rattle.star_trees.specs.declared.trees.BinOp.{BinOp}
use Rattle.star_trees.specs.declared.trees.Stmt.{roll-Stmt}
use Rattle.star_trees.specs.declared.trees.StmtKind.{StmtKind}
use Rattle.star_trees.specs.declared.trees.StmtKind as st
use Rattle.star_grammar.specs.declared.bare_expressions.BareExpr.{BareExpr}
use Rattle.star_grammar.specs.declared.bare_expressions.BareName.{BareName}
use Rattle.star_grammar.specs.declared.bare_expressions.BareParam.{BareParam}
use Rattle.star_grammar.specs.declared.bare_statements.BareLoadName.{BareLoadName}
use Rattle.star_grammar.specs.declared.bare_statements.BareStmt.{BareStmt}
use Rattle.star_grammar.specs.declared.bare_statements.BareStmtKind.TheOpen.{BareStmtKind-F}
use Rattle.star_trees.specs.Variables.{Names, function_variables}
use Rattle.star_scopes.specs.ExprMaking.{params_made}
use Rattle.star_scopes.specs.ExprMeaning.{param_meaning}
use Rattle.star_scopes.specs.Making.{Making, ◌>>=◌, pure}
use Rattle.star_scopes.specs.Meanings.{KindMeaning, StmtMeaning}
use Rattle.star_scopes.specs.Scopes.{variable}
use Rattle.star_scopes.specs.StatementMaking.{def_code, load_of, load_made, body_made, if_made}
use Rattle.star_scopes.specs.StatementMaking.{for_made, return_made, assign_made, augment_made}
use Rattle.star_scopes.specs.StatementMaking.{value_made, def_made, kind_made, stmt_made}
use Rattle.star_scopes.specs.StatementMeaning.{kind_meaning, kind_step, stmt_meaning, stmt_step}

pub record KindTells (m : KindMeaning) : Type 0 where
  pub kind : (line : ℕ) (free : Names) (scopes : List Names)
      → Tells mentions_of_kind [] (m.kind line free scopes)

pub record StmtTells (m : StmtMeaning) : Type 0 where
  pub stmt : (free : Names) (scopes : List Names) → Tells mentions_of_stmt [] (m.stmt free scopes)

abbrev pub ToldKind : Type 0
ToldKind = With (λ tree. KindTells (kind_meaning tree))

abbrev pub ToldStmt : Type 0
ToldStmt = With (λ tree. StmtTells (stmt_meaning tree))

load_made-tells : (file : List ℕ) (names : List BareLoadName) (line : ℕ)
    → Tells mentions_of_kind [] (load_made file names line)
unfolding load_made
load_made-tells file names line =
    then (load-tells (load_of file names line)) (λ place.
    done (st.Load place) (is.fold_kind-Load stmts_mention place))

module _ (free : Names) (scopes : List Names) where
  all_params-tells : (params : List BareParam)
      → Tells (of_each mentions_of_param) [] (params_made free scopes (map param_meaning params))
  unfolding params_made
  all_params-tells = each-surely mentions_of_param (λ param. param.param free scopes) param_meaning
      (λ tree. (param-tells tree).param free scopes)

  body-tells : (body : List ToldStmt)
      → Tells (of_each mentions_of_stmt) []
      (body_made free scopes (map stmt_meaning (map bare body)))
  unfolding body_made
  body-tells = each-tells mentions_of_stmt (λ statement. statement.stmt free scopes) stmt_meaning
      (λ tree tells. tells.stmt free scopes)

  if-tells : (test : BareExpr) (chosen other : List ToldStmt)
      → Tells mentions_of_kind []
      (if_made free scopes test (map stmt_meaning (map bare chosen))
      (map stmt_meaning (map bare other)))
  unfolding if_made
  if-tells test chosen other =
      then ((expr-tells test).expr free scopes) (λ made.
      then (body-tells chosen) (λ made_chosen.
      then (body-tells other) (λ made_other.
      done (st.If made made_chosen made_other)
      (is.fold_kind-If stmts_mention made made_chosen made_other))))

  for-tells : (to over : BareExpr) (body : List ToldStmt)
      → Tells mentions_of_kind [] (for_made free scopes to over (map stmt_meaning (map bare body)))
  unfolding for_made
  for-tells to over body =
      then ((expr-tells to).target free scopes) (λ made_to.
      then ((expr-tells over).expr free scopes) (λ made_over.
      then (body-tells body) (λ made.
      done (st.For made_to made_over made)
      (is.fold_kind-For stmts_mention made_to made_over made))))

  return-tells : (value : Option BareExpr)
      → Tells mentions_of_kind [] (return_made free scopes value)
  unfolding return_made
  return-tells None = done (st.Return None) (is.fold_kind-Return stmts_mention None)
  return-tells (Some value) =
      then ((expr-tells value).expr free scopes) (λ made.
      done (st.Return (Some made)) (is.fold_kind-Return stmts_mention (Some made)))

  assign-tells : (to value : BareExpr)
      → Tells mentions_of_kind [] (assign_made free scopes to value)
  unfolding assign_made
  assign-tells to value =
      then ((expr-tells to).target free scopes) (λ made_to.
      then ((expr-tells value).expr free scopes) (λ made.
      done (st.Assign made_to made) (is.fold_kind-Assign stmts_mention made_to made)))

  augment-tells : (place : BareExpr) (op : BinOp) (value : BareExpr)
      → Tells mentions_of_kind [] (augment_made free scopes place op value)
  unfolding augment_made
  augment-tells place op value =
      then ((expr-tells place).expr free scopes) (λ made_place.
      then ((expr-tells value).expr free scopes) (λ made.
      done (st.Augment made_place op made) (is.fold_kind-Augment stmts_mention made_place op made)))

  value-tells : (value : BareExpr) → Tells mentions_of_kind [] (value_made free scopes value)
  unfolding value_made
  value-tells value =
      then ((expr-tells value).expr free scopes) (λ made.
      done (st.Value made) (is.fold_kind-Value stmts_mention made))

def-tells :
    (free : Names) (scopes : List Names) (name : BareName) (params : List BareParam)
    (body : List ToldStmt) (line : ℕ)
    → Tells mentions_of_kind []
    (def_made free scopes name params (map stmt_meaning (map bare body)) line)
unfolding def_made
def-tells free scopes name params body line =
    let inner = function_variables (map (λ param. param.bound) (map param_meaning params))
    (map (λ one. one.bound) (map stmt_meaning (map bare body))) ∷ scopes in
    let to = variable free scopes name.name in
    let parts : Making (List Param × List Stmt) = params_made free scopes
    (map param_meaning params) >>=
    (λ made_params. body_made free inner (map stmt_meaning (map bare body)) >>=
    (λ made. pure (made_params, made))) in
    function-tells {f = λ (both : List Param × List Stmt). of_each mentions_of_param both.0
    ++ of_each mentions_of_stmt both.1} true parts
    (λ made. def_code name.name made.0 made.1 line) (λ index. st.Def index to)
    (then (all_params-tells free scopes params) (λ made_params.
    then (body-tells free inner body) (λ made.
    done (made_params, made) refl)))
    (λ made. refl)
    (λ made. refl)
    (λ index. is.fold_kind-Def stmts_mention index to)

-- ---- a construct of such parts is such

kind-layer : (layer : KindParts KindTells StmtTells) (line : ℕ) (free : Names) (scopes : List Names)
    → Tells mentions_of_kind [] (kind_made (meant-kind KindTells StmtTells layer) line free scopes)
kind-layer (BareStmtKind-F.Def name params body) line free scopes =
    def-tells free scopes name params body line
kind-layer (BareStmtKind-F.If test chosen other) line free scopes =
    if-tells free scopes test chosen other
kind-layer (BareStmtKind-F.For to over body) line free scopes = for-tells free scopes to over body
kind-layer (BareStmtKind-F.Return value) line free scopes = return-tells free scopes value
kind-layer BareStmtKind-F.Break line free scopes = done st.Break (is.fold_kind-Break stmts_mention)
kind-layer BareStmtKind-F.Continue line free scopes =
    done st.Continue (is.fold_kind-Continue stmts_mention)
kind-layer BareStmtKind-F.Pass line free scopes = done st.Pass (is.fold_kind-Pass stmts_mention)
kind-layer (BareStmtKind-F.Load file names) line free scopes = load_made-tells file names line
kind-layer (BareStmtKind-F.Assign to value) line free scopes = assign-tells free scopes to value
kind-layer (BareStmtKind-F.Augment place op value) line free scopes =
    augment-tells free scopes place op value
kind-layer (BareStmtKind-F.Value value) line free scopes = value-tells free scopes value

stmt-layer : (kind : ToldKind) (line : ℕ) (free : Names) (scopes : List Names)
    → Tells mentions_of_stmt [] (stmt_made (kind_meaning kind.0) line free scopes)
unfolding stmt_made
stmt-layer kind line free scopes =
    then (kind.1.kind line free scopes) (λ made.
    done (roll-Stmt (record { line = line; kind = made }))
    (is.fold_stmt-roll stmts_mention line made))

-- ---- each tree is such

kind-tells : (layer : KindParts KindTells StmtTells)
    → KindTells (kind_step (meant-kind KindTells StmtTells layer))
kind-tells layer = record { kind = kind-layer layer }

layer-tells : (layer : StmtParts KindTells StmtTells)
    → StmtTells (stmt_step (meant-stmt KindTells StmtTells layer))
layer-tells layer = record { stmt = stmt-layer layer.kind layer.line }

pub stmt-tells : (tree : BareStmt) → StmtTells (stmt_meaning tree)
stmt-tells = of-stmt KindTells StmtTells kind-tells layer-tells

pub all-tells : (free : Names) (scopes : List Names) (body : List BareStmt)
    → Tells (of_each mentions_of_stmt) [] (body_made free scopes (map stmt_meaning body))
unfolding body_made
all-tells free scopes = each-surely mentions_of_stmt
    (λ statement. statement.stmt free scopes) stmt_meaning
    (λ tree. (stmt-tells tree).stmt free scopes)
