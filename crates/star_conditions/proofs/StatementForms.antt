-- What is made of a statement that the grammar spells may stand where the statement stands, and any
-- function that is made beside it has no refused form.
use Rattle.std.proofs.Common.{◌≡◌, ℕ, true, List, [], ◌∷◌, map, All, Some, None, refl, subst, sym}
use Rattle.std.proofs.Common.{◌∙◌}
use Rattle.std.proofs.lemmas.Bool.{and_from}
use Rattle.std.specs.List.{AllZip}
use Rattle.star_conditions.proofs.ExpressionForms.{RightCode, MakesRight, right, ExprRight}
use Rattle.star_conditions.proofs.ExpressionForms.{ParamRight, params-right}
use Rattle.star_trees.proofs.Folds as is
use Rattle.star_conditions.proofs.FormsMade.{ParamsRight}
use Rattle.star_conditions.proofs.Made.{pure-makes, bind-makes, makes-also, makes-both, each-makes}
use Rattle.star_conditions.proofs.Made.{function-makes, load-makes}
use Rattle.star_conditions.proofs.StatementNesting.{stmt_meaning-roll}
use Rattle.star_trees.specs.Orders.{all_stand, stands, stands_as, stmt_forms}
use Rattle.star_trees.specs.declared.files.Param.{Param}
use Rattle.star_trees.specs.declared.trees.BinOp.{BinOp}
use Rattle.star_trees.specs.declared.trees.Stmt.{Stmt, roll-Stmt}
use Rattle.star_trees.specs.declared.trees.StmtKind as st
use Rattle.star_grammar.specs.declared.bare_expressions.BareExpr.{BareExpr}
use Rattle.star_grammar.specs.declared.bare_expressions.BareName.{BareName}
use Rattle.star_grammar.specs.declared.bare_expressions.BareParam.{BareParam}
use Rattle.star_grammar.specs.declared.bare_statements.BareLoadName.{BareLoadName}
use Rattle.star_grammar.specs.declared.bare_statements.BareStmt.{BareStmt}
use Rattle.star_grammar.specs.declared.bare_statements.BareStmtKind.{BareStmtKind}
use Rattle.star_trees.specs.declared.inside.Inside.{Inside}
use Rattle.star_grammar.specs.Orders as grammar
use Rattle.star_grammar.specs.Orders.{is_target}
use Rattle.star_grammar.specs.Statements.{on_line}
use Rattle.star_trees.specs.Surroundings.{in_branch, in_function, in_loop}
use Rattle.star_trees.specs.Variables.{Names, function_variables}
use Rattle.star_scopes.specs.ExprMaking.{params_made}
use Rattle.star_scopes.specs.ExprMeaning.{param_meaning}
use Rattle.star_scopes.specs.Making.{Making, ◌>>=◌, pure}
use Rattle.star_scopes.specs.Meanings.{KindMeaning, StmtMeaning}
use Rattle.star_scopes.specs.Scopes.{variable}
use Rattle.star_scopes.specs.StatementMaking.{def_code, load_of, load_made, body_made, if_made}
use Rattle.star_scopes.specs.StatementMaking.{for_made, return_made, assign_made, augment_made}
use Rattle.star_scopes.specs.StatementMaking.{value_made, def_made, stmt_made}
use Rattle.star_scopes.specs.StatementMeaning.{kind_meaning, stmt_meaning}

pub record KindForm (inside : Inside) (m : KindMeaning) : Type 0 where
  pub kind : (line : ℕ) (free : Names) (scopes : List Names)
      → MakesRight (λ made. stands_as made inside) (m.kind line free scopes)

pub record StmtForm (inside : Inside) (m : StmtMeaning) : Type 0 where
  pub stmt : (free : Names) (scopes : List Names)
      → MakesRight (λ made. stands made inside) (m.stmt free scopes)

abbrev pub StmtRight : Inside → BareStmt → Type 0
StmtRight inside tree = StmtForm inside (stmt_meaning tree)

all_stand-zipped : {C : Type 0} (inside : Inside) (items : List C) (made : List Stmt)
    → AllZip (λ c one. stands one inside ≡ true) items made
    → all_stand (map stands made) inside ≡ true
all_stand-zipped inside [] [] all = refl
all_stand-zipped inside [] (one ∷ made) all = absurd all
all_stand-zipped inside (item ∷ items) [] all = absurd all
all_stand-zipped inside (item ∷ items) (one ∷ made) all = and_from _ _ all.0
    (all_stand-zipped inside items made all.1)

pub load-right : (inside : Inside) (file : List ℕ) (names : List BareLoadName) (line : ℕ)
    → inside.top ≡ true
    → MakesRight (λ made. stands_as made inside) (load_made file names line)
unfolding load_made
load-right inside file names line may = bind-makes RightCode
    (load-makes RightCode (load_of file names line))
    (λ place _. right _ (st.Load place) ((λ i. is.fold_kind-Load stmt_forms place i inside) ∙ may))

module _ (free : Names) (scopes : List Names) (inside : Inside) where
  pub body-right : (body : List BareStmt)
      → All (StmtRight inside) body
      → MakesRight (λ made. all_stand (map stands made) inside)
      (body_made free scopes (map stmt_meaning body))
  unfolding body_made
  body-right body all = makes-also RightCode
      (λ made zipped. all_stand-zipped inside body made zipped)
      (each-makes RightCode (StmtRight inside) (λ tree made. stands made inside ≡ true)
      (λ statement. statement.stmt free scopes) stmt_meaning
      (λ tree so. so.stmt free scopes) body all)

module _ (free : Names) (scopes : List Names) (inside : Inside) where
  pub if-right : (test : BareExpr) (chosen other : List BareStmt)
      → ExprRight test
      → All (StmtRight (in_branch inside)) chosen
      → All (StmtRight (in_branch inside)) other
      → MakesRight (λ made. stands_as made inside)
      (if_made free scopes test (map stmt_meaning chosen) (map stmt_meaning other))
  unfolding if_made
  if-right test chosen other so all more =
      bind-makes RightCode (so.expr free scopes) (λ made one.
      bind-makes RightCode (body-right free scopes (in_branch inside) chosen all)
      (λ made_chosen few.
      bind-makes RightCode (body-right free scopes (in_branch inside) other more)
      (λ made_other some.
      right _ (st.If made made_chosen made_other)
      ((λ i. is.fold_kind-If stmt_forms made made_chosen made_other i inside)
      ∙ and_from _ _ one (and_from _ _ few some)))))

  pub for-right : (to over : BareExpr) (body : List BareStmt)
      → is_target to ≡ true
      → ExprRight to
      → ExprRight over
      → All (StmtRight (in_loop inside)) body
      → MakesRight (λ made. stands_as made inside)
      (for_made free scopes to over (map stmt_meaning body))
  unfolding for_made
  for-right to over body are so also all =
      bind-makes RightCode (so.target are free scopes) (λ made_to one.
      bind-makes RightCode (also.expr free scopes) (λ made_over two.
      bind-makes RightCode (body-right free scopes (in_loop inside) body all) (λ made few.
      right _ (st.For made_to made_over made)
      ((λ i. is.fold_kind-For stmt_forms made_to made_over made i inside)
      ∙ and_from _ _ one (and_from _ _ two few)))))

  pub return_nothing-right : inside.function ≡ true
      → MakesRight (λ made. stands_as made inside) (return_made free scopes None)
  unfolding return_made
  return_nothing-right may = right _ (st.Return None)
      ((λ i. is.fold_kind-Return stmt_forms None i inside) ∙ and_from _ _ may refl)

  pub return-right : (value : BareExpr)
      → inside.function ≡ true
      → ExprRight value
      → MakesRight (λ made. stands_as made inside) (return_made free scopes (Some value))
  unfolding return_made
  return-right value may so = bind-makes RightCode (so.expr free scopes)
      (λ made one. right _ (st.Return (Some made))
      ((λ i. is.fold_kind-Return stmt_forms (Some made) i inside) ∙ and_from _ _ may one))

  pub assign-right : (to value : BareExpr)
      → is_target to ≡ true
      → ExprRight to
      → ExprRight value
      → MakesRight (λ made. stands_as made inside) (assign_made free scopes to value)
  unfolding assign_made
  assign-right to value are so also =
      bind-makes RightCode (so.target are free scopes) (λ made_to one.
      bind-makes RightCode (also.expr free scopes) (λ made two.
      right _ (st.Assign made_to made)
      ((λ i. is.fold_kind-Assign stmt_forms made_to made i inside) ∙ and_from _ _ one two)))

  pub augment-right : (place : BareExpr) (op : BinOp) (value : BareExpr)
      → grammar.is_place place ≡ true
      → ExprRight place
      → ExprRight value
      → MakesRight (λ made. stands_as made inside) (augment_made free scopes place op value)
  unfolding augment_made
  augment-right place op value is_one so also =
      bind-makes RightCode
      (makes-both RightCode (so.place is_one free scopes) (so.expr free scopes))
      (λ made_place one.
      bind-makes RightCode (also.expr free scopes) (λ made two.
      right _ (st.Augment made_place op made)
      ((λ i. is.fold_kind-Augment stmt_forms made_place op made i inside)
      ∙ and_from _ _ one.0 (and_from _ _ one.1 two))))

  pub value-right : (value : BareExpr)
      → ExprRight value
      → MakesRight (λ made. stands_as made inside) (value_made free scopes value)
  unfolding value_made
  value-right value so = bind-makes RightCode (so.expr free scopes)
      (λ made one. right _ (st.Value made)
      ((λ i. is.fold_kind-Value stmt_forms made i inside) ∙ one))

  pub def-right : (name : BareName) (params : List BareParam) (body : List BareStmt) (line : ℕ)
      → grammar.are_params params ≡ true
      → All ParamRight params
      → All (StmtRight in_function) body
      → MakesRight (λ made. stands_as made inside)
      (def_made free scopes name params (map stmt_meaning body) line)
  unfolding def_made
  def-right name params body line are all some =
      let round = function_variables (map (λ param. param.bound) (map param_meaning params))
      (map (λ one. one.bound) (map stmt_meaning body)) ∷ scopes in
      let to = variable free scopes name.name in
      let parts : Making (List Param × List Stmt) = params_made free scopes
      (map param_meaning params) >>=
      (λ made_params. body_made free round (map stmt_meaning body) >>=
      (λ made. pure (made_params, made))) in
      function-makes RightCode {Value = λ (both : List Param × List Stmt). ParamsRight both.0
      × (all_stand (map stands both.1) in_function ≡ true)} parts
      (λ made. def_code name.name made.0 made.1 line) (λ place. st.Def place to)
      (bind-makes RightCode (params-right free scopes params are all) (λ made_params few.
      bind-makes RightCode (body-right free round in_function body some) (λ made many.
      pure-makes RightCode (made_params, made) (few, many))))
      (λ made both. and_from _ _ both.0.order (and_from _ _ both.0.defaults both.1))
      (λ place. (λ i. is.fold_kind-Def stmt_forms place to i inside))

stmt-right : (inside : Inside) (kind : KindMeaning) (line : ℕ) (free : Names) (scopes : List Names)
    → KindForm inside kind
    → MakesRight (λ made. stands made inside) (stmt_made kind line free scopes)
unfolding stmt_made
stmt-right inside kind line free scopes so = bind-makes RightCode (so.kind line free scopes)
    (λ made one. right _ (roll-Stmt (record { line = line; kind = made }))
    ((λ i. is.fold_stmt-roll stmt_forms line made i inside) ∙ one))

-- a statement on its line may stand where what it says may stand
pub on_line-right : (line : ℕ) (inside : Inside) (kind : BareStmtKind) (meant : KindMeaning)
    → kind_meaning kind ≡ meant
    → KindForm inside meant
    → StmtRight inside (on_line line kind)
on_line-right line inside kind meant means so = subst (StmtForm inside)
    (sym (stmt_meaning-roll line kind))
    (record {
      stmt = λ free scopes. stmt-right inside (kind_meaning kind) line free scopes
          (subst (KindForm inside) (sym means) so);
    })
