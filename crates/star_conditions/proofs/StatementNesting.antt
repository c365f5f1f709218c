-- What is made of a statement is no deeper than the statement, nor is any function that is made
-- beside it.
use Rattle.std.proofs.Common.{rules, ◌≡◌, ℕ, ◌+◌, ◌≤◌, ◌<◌, max, List, ◌∷◌, map, All, Some, None}
use Rattle.std.proofs.Common.{arith, subst, sym}
use Rattle.star_conditions.proofs.ExpressionNesting.{Shallow, MakesWithin, within, each-within}
use Rattle.star_conditions.proofs.ExpressionNesting.{raised, ExprNested, ParamNested, params-nested}
use Rattle.star_conditions.proofs.ExpressionIndexes.{of_each}
use Rattle.star_conditions.proofs.Made.{bind-makes, function-makes, load-makes}
use Rattle.star_trees.proofs.Folds as is
use Rattle.star_trees.specs.Nesting.{depth_of_kind, depth_of_param, depth_of_stmt, stmt_depths}
use Rattle.star_trees.specs.declared.trees.BinOp.{BinOp}
use Rattle.star_trees.specs.declared.files.Param.{Param}
use Rattle.star_trees.specs.declared.trees.Stmt.{Stmt, roll-Stmt}
use Rattle.star_trees.specs.declared.trees.StmtKind as st
use Rattle.star_grammar.specs.declared.bare_expressions.BareExpr.{BareExpr}
use Rattle.star_grammar.specs.declared.bare_expressions.BareName.{BareName}
use Rattle.star_grammar.specs.declared.bare_expressions.BareParam.{BareParam}
use Rattle.star_grammar.specs.declared.bare_statements.BareLoadName.{BareLoadName}
use Rattle.star_grammar.specs.declared.bare_statements.BareStmt.{BareStmt, roll-BareStmt}
use Rattle.star_grammar.specs.declared.bare_statements.BareStmtKind as bare
use Rattle.star_grammar.specs.declared.bare_statements.BareStmtKind.{BareStmtKind, the_lemmas}
use Rattle.star_grammar.specs.Statements.{on_line}
use Rattle.star_trees.specs.Variables.{Names, function_variables}
use Rattle.star_scopes.proofs.StatementLayers as layer
use Rattle.star_scopes.specs.ExprMaking.{params_made}
use Rattle.star_scopes.specs.ExprMeaning.{param_meaning}
use Rattle.star_scopes.specs.Making.{Making, ◌>>=◌, pure}
use Rattle.star_scopes.specs.Meanings.{KindMeaning, StmtMeaning}
use Rattle.star_scopes.specs.Scopes.{variable}
use Rattle.star_scopes.specs.StatementMaking.{def_code, load_of, load_made, body_made, if_made}
use Rattle.star_scopes.specs.StatementMaking.{for_made, return_made, assign_made, augment_made}
use Rattle.star_scopes.specs.StatementMaking.{value_made, def_made, stmt_made}
use Rattle.star_scopes.specs.StatementMeaning.{kind_meaning, stmt_meaning, stmt_step}

pub record KindWithin (n : ℕ) (m : KindMeaning) : Type 0 where
  pub kind : (line : ℕ) (free : Names) (scopes : List Names)
      → MakesWithin depth_of_kind n (m.kind line free scopes)

pub record StmtWithin (n : ℕ) (m : StmtMeaning) : Type 0 where
  pub stmt : (free : Names) (scopes : List Names) → MakesWithin depth_of_stmt n (m.stmt free scopes)

abbrev pub StmtNested : ℕ → BareStmt → Type 0
StmtNested n tree = StmtWithin n (stmt_meaning tree)

load-nested : (n : ℕ) (file : List ℕ) (names : List BareLoadName) (line : ℕ)
    → MakesWithin depth_of_kind (n + 1) (load_made file names line)
unfolding load_made
load-nested n file names line = bind-makes Shallow (load-makes Shallow (load_of file names line))
    (λ place _. within _ _ (st.Load place) (omega (arith, is.fold_kind-Load stmt_depths place)))

module _ (free : Names) (scopes : List Names) (n : ℕ) where
  pub body-nested : (body : List BareStmt)
      → All (StmtNested n) body
      → MakesWithin (of_each depth_of_stmt) n (body_made free scopes (map stmt_meaning body))
  unfolding body_made
  body-nested = each-within (StmtNested n) depth_of_stmt n
      (λ statement. statement.stmt free scopes) stmt_meaning (λ tree so. so.stmt free scopes)

  if-nested : (test : BareExpr) (chosen other : List BareStmt)
      → ExprNested n test
      → All (StmtNested n) chosen
      → All (StmtNested n) other
      → MakesWithin depth_of_kind (n + 1)
      (if_made free scopes test (map stmt_meaning chosen) (map stmt_meaning other))
  unfolding if_made
  if-nested test chosen other so all more =
      bind-makes Shallow (so.expr free scopes) (λ made one.
      bind-makes Shallow (body-nested chosen all) (λ made_chosen few.
      bind-makes Shallow (body-nested other more) (λ made_other some.
      within _ _ (st.If made made_chosen made_other)
      (omega (arith, is.fold_kind-If stmt_depths made made_chosen made_other)))))

  for-nested : (to over : BareExpr) (body : List BareStmt)
      → ExprNested n to
      → ExprNested n over
      → All (StmtNested n) body
      → MakesWithin depth_of_kind (n + 1) (for_made free scopes to over (map stmt_meaning body))
  unfolding for_made
  for-nested to over body so also all =
      bind-makes Shallow (so.target free scopes) (λ made_to one.
      bind-makes Shallow (also.expr free scopes) (λ made_over two.
      bind-makes Shallow (body-nested body all) (λ made few.
      within _ _ (st.For made_to made_over made)
      (omega (arith, is.fold_kind-For stmt_depths made_to made_over made)))))

  return-nested : (value : BareExpr)
      → ExprNested n value
      → MakesWithin depth_of_kind (n + 1) (return_made free scopes (Some value))
  unfolding return_made
  return-nested value so = bind-makes Shallow (so.expr free scopes)
      (λ made one. within _ _ (st.Return (Some made))
      (omega (arith, is.fold_kind-Return stmt_depths (Some made))))

  assign-nested : (to value : BareExpr)
      → ExprNested n to
      → ExprNested n value
      → MakesWithin depth_of_kind (n + 1) (assign_made free scopes to value)
  unfolding assign_made
  assign-nested to value so also =
      bind-makes Shallow (so.target free scopes) (λ made_to one.
      bind-makes Shallow (also.expr free scopes) (λ made two.
      within _ _ (st.Assign made_to made)
      (omega (arith, is.fold_kind-Assign stmt_depths made_to made))))

  augment-nested : (place : BareExpr) (op : BinOp) (value : BareExpr)
      → ExprNested n place
      → ExprNested n value
      → MakesWithin depth_of_kind (n + 1) (augment_made free scopes place op value)
  unfolding augment_made
  augment-nested place op value so also =
      bind-makes Shallow (so.expr free scopes) (λ made_place one.
      bind-makes Shallow (also.expr free scopes) (λ made two.
      within _ _ (st.Augment made_place op made)
      (omega (arith, is.fold_kind-Augment stmt_depths made_place op made))))

  value-nested : (value : BareExpr)
      → ExprNested n value
      → MakesWithin depth_of_kind (n + 1) (value_made free scopes value)
  unfolding value_made
  value-nested value so = bind-makes Shallow (so.expr free scopes)
      (λ made one. within _ _ (st.Value made)
      (omega (arith, is.fold_kind-Value stmt_depths made, one)))

-- the code of a `def` is as deep as the `def`
def-nested : (free : Names) (scopes : List Names) (n : ℕ) (name : BareName)
    (params : List BareParam) (body : List BareStmt) (line : ℕ)
    → n < 128
    → All (ParamNested n) params
    → All (StmtNested n) body
    → MakesWithin depth_of_kind (n + 1)
    (def_made free scopes name params (map stmt_meaning body) line)
unfolding def_made
def-nested free scopes n name params body line less all some =
    let inner = function_variables (map (λ param. param.bound) (map param_meaning params))
    (map (λ one. one.bound) (map stmt_meaning body)) ∷ scopes in
    let to = variable free scopes name.name in
    let parts : Making (List Param × List Stmt) = params_made free scopes
    (map param_meaning params) >>=
    (λ made_params. body_made free inner (map stmt_meaning body) >>=
    (λ made. pure (made_params, made))) in
    function-makes Shallow parts (λ made. def_code name.name made.0 made.1 line)
    (λ place. st.Def place to)
    (bind-makes Shallow (params-nested free scopes n params all) (λ made_params few.
    bind-makes Shallow (body-nested free inner n body some) (λ made many.
    within (λ both. max (of_each depth_of_param both.0) (of_each depth_of_stmt both.1)) n
    (made_params, made) (omega arith))))
    (λ made few. omega (arith, few))
    (λ place. omega (arith, is.fold_kind-Def stmt_depths place to))

stmt-nested : (n : ℕ) (kind : KindMeaning) (line : ℕ) (free : Names) (scopes : List Names)
    → KindWithin n kind
    → MakesWithin depth_of_stmt n (stmt_made kind line free scopes)
unfolding stmt_made
stmt-nested n kind line free scopes so = bind-makes Shallow (so.kind line free scopes)
    (λ made one. within _ n (roll-Stmt (record { line = line; kind = made }))
    (omega (arith, is.fold_stmt-roll stmt_depths line made, one)))

-- ---- what is made of each statement

pub stmt_meaning-roll : (line : ℕ) (kind : BareStmtKind)
    → stmt_meaning (roll-BareStmt (record { line = line; kind = kind }))
    ≡ stmt_step (record { line = line; kind = kind_meaning kind })
unfolding kind_meaning stmt_meaning
stmt_meaning-roll line kind = search (rules, the_lemmas)

on_line-within : (line n : ℕ) (kind : BareStmtKind) (meant : KindMeaning)
    → kind_meaning kind ≡ meant
    → KindWithin n meant
    → StmtNested n (on_line line kind)
on_line-within line n kind meant means so = subst (StmtWithin n) (sym (stmt_meaning-roll line kind))
    (record {
      stmt = λ free scopes. stmt-nested n (kind_meaning kind) line free scopes
          (subst (KindWithin n) (sym means) so);
    })

pub deeper-stmt : (n m : ℕ) (tree : BareStmt) → n ≤ m → StmtNested n tree → StmtNested m tree
deeper-stmt n m tree below so = record {
  stmt = λ free scopes. raised depth_of_stmt n m _ below
      (so.stmt free scopes);
}

pub returned_nothing-within : (line : ℕ) → StmtNested 1 (on_line line (bare.Return None))
unfolding return_made
returned_nothing-within line = on_line-within line 1 _ _ (layer.kind_meaning-Return None)
    (record {
      kind = λ line free scopes. within _ 1 (st.Return None)
          (omega (arith, is.fold_kind-Return stmt_depths None));
    })

pub returned-within : (line n : ℕ) (value : BareExpr)
    → ExprNested n value
    → StmtNested (n + 1) (on_line line (bare.Return (Some value)))
returned-within line n value so = on_line-within line (n + 1) _ _
    (layer.kind_meaning-Return (Some value))
    (record { kind = λ line free scopes. return-nested free scopes n value so })

pub breaks-within : (line : ℕ) → StmtNested 1 (on_line line bare.Break)
breaks-within line = on_line-within line 1 _ _ layer.kind_meaning-Break
    (record {
      kind = λ line free scopes. within _ 1 st.Break
          (omega (arith, is.fold_kind-Break stmt_depths));
    })

pub continues-within : (line : ℕ) → StmtNested 1 (on_line line bare.Continue)
continues-within line = on_line-within line 1 _ _ layer.kind_meaning-Continue
    (record {
      kind = λ line free scopes. within _ 1 st.Continue
          (omega (arith, is.fold_kind-Continue stmt_depths));
    })

pub passes-within : (line : ℕ) → StmtNested 1 (on_line line bare.Pass)
passes-within line = on_line-within line 1 _ _ layer.kind_meaning-Pass
    (record {
      kind = λ line free scopes. within _ 1 st.Pass
          (omega (arith, is.fold_kind-Pass stmt_depths));
    })

pub loads-within : (line n : ℕ) (file : List ℕ) (names : List BareLoadName)
    → StmtNested (n + 1) (on_line line (bare.Load file names))
loads-within line n file names = on_line-within line (n + 1) _ _
    (layer.kind_meaning-Load file names)
    (record { kind = λ line free scopes. load-nested n file names line })

pub assigned-within : (line n : ℕ) (to value : BareExpr)
    → ExprNested n to
    → ExprNested n value
    → StmtNested (n + 1) (on_line line (bare.Assign to value))
assigned-within line n to value so also = on_line-within line (n + 1) _ _
    (layer.kind_meaning-Assign to value)
    (record { kind = λ line free scopes. assign-nested free scopes n to value so also })

pub changed-within : (line n : ℕ) (place : BareExpr) (op : BinOp) (value : BareExpr)
    → ExprNested n place
    → ExprNested n value
    → StmtNested (n + 1) (on_line line (bare.Augment place op value))
changed-within line n place op value so also = on_line-within line (n + 1) _ _
    (layer.kind_meaning-Augment place op value)
    (record { kind = λ line free scopes. augment-nested free scopes n place op value so also })

pub valued-within : (line n : ℕ) (value : BareExpr)
    → ExprNested n value
    → StmtNested (n + 1) (on_line line (bare.Value value))
valued-within line n value so = on_line-within line (n + 1) _ _ (layer.kind_meaning-Value value)
    (record { kind = λ line free scopes. value-nested free scopes n value so })

pub def-within : (line n : ℕ) (name : BareName) (params : List BareParam) (body : List BareStmt)
    → n < 128
    → All (ParamNested n) params
    → All (StmtNested n) body
    → StmtNested (n + 1) (on_line line (bare.Def name params body))
def-within line n name params body less all some = on_line-within line (n + 1) _ _
    (layer.kind_meaning-Def name params body)
    (record {
      kind = λ line free scopes. def-nested free scopes n name params body line less all
          some;
    })

pub branch-within : (line n : ℕ) (test : BareExpr) (chosen other : List BareStmt)
    → ExprNested n test
    → All (StmtNested n) chosen
    → All (StmtNested n) other
    → StmtNested (n + 1) (on_line line (bare.If test chosen other))
branch-within line n test chosen other so all more = on_line-within line (n + 1) _ _
    (layer.kind_meaning-If test chosen other)
    (record { kind = λ line free scopes. if-nested free scopes n test chosen other so all more })

pub loop-within : (line n : ℕ) (to over : BareExpr) (body : List BareStmt)
    → ExprNested n to
    → ExprNested n over
    → All (StmtNested n) body
    → StmtNested (n + 1) (on_line line (bare.For to over body))
loop-within line n to over body so also all = on_line-within line (n + 1) _ _
    (layer.kind_meaning-For to over body)
    (record { kind = λ line free scopes. for-nested free scopes n to over body so also all })
