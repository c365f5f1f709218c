-- What is made of statements binds what they do, and its variables are counted right.
use Rattle.std.proofs.Common.{◌≡◌, ℕ, true, List, [], ◌∷◌, map, Option, Some, None, refl, ap, subst}
use Rattle.std.proofs.Common.{sym, ◌∙◌}
use Rattle.std.proofs.lemmas.Bool.{and_from}
use Rattle.star_trees.proofs.Folds as is
use Rattle.star_conditions.proofs.CountsMade.{Whole, back, Always, Pairwise, Fits, done, bind-good}
use Rattle.star_conditions.proofs.CountsMade.{then, first, only, each-good, all-fit, all-bound}
use Rattle.star_conditions.proofs.CountsMade.{begin-good, finish-good, load-good}
use Rattle.star_conditions.proofs.ExpressionCounts.{ParamFits, fits-by, plain-fits, expr-sound}
use Rattle.star_conditions.proofs.ExpressionCounts.{param-sound}
use Rattle.star_conditions.proofs.FreeUses.{Bounded, Covered, Grows, Keeps, binds-keep, both-grow}
use Rattle.star_conditions.proofs.FreeUses.{both-keep, bound-there, each-apply, each-bounded}
use Rattle.star_conditions.proofs.FreeUses.{each-grows, each-of, each-sure, first-bounded}
use Rattle.star_conditions.proofs.FreeUses.{first-covered, no_use-grows, second-bounded}
use Rattle.star_conditions.proofs.FreeUses.{second-covered, with_binding-within, within-self}
use Rattle.star_conditions.proofs.MeaningInduction.{KindParts, StmtParts, meant-kind, meant-stmt}
use Rattle.star_conditions.proofs.MeaningInduction.{of-stmt}
use Rattle.star_conditions.proofs.Trees.{With, bare}
use Rattle.star_conditions.proofs.VariablesFound.{same_scopes-self, variable-counted}
use Rattle.star_conditions.proofs.VariablesFound.{variable-named}
use Rattle.star_trees.specs.Counted as counted
use Rattle.star_trees.specs.Counted.{Tally, all_counted, bound_of, code_counted, expr_in, kind_in}
use Rattle.star_trees.specs.Counted.{no_load, param_tally, same_scopes, stmt_in, variable_counted}
use Rattle.star_trees.specs.Counted.{stmt_tallies}
use Rattle.star_trees.specs.declared.loads.Load.{Load}
use Rattle.star_trees.specs.declared.trees.BinOp.{BinOp}
use Rattle.star_trees.specs.declared.trees.Stmt.{Stmt, roll-Stmt}
use Rattle.star_trees.specs.declared.trees.StmtKind.{StmtKind}
use Rattle.star_trees.specs.declared.trees.StmtKind as st
use Rattle.star_grammar.specs.declared.bare_expressions.BareExpr.{BareExpr}
use Rattle.star_grammar.specs.declared.bare_expressions.BareName.{BareName}
use Rattle.star_grammar.specs.declared.bare_expressions.BareParam.{BareParam}
use Rattle.star_grammar.specs.declared.bare_statements.BareLoadName.{BareLoadName}
use Rattle.star_grammar.specs.declared.bare_statements.BareStmt.{BareStmt}
use Rattle.star_grammar.specs.declared.bare_statements.BareStmtKind.TheOpen.{BareStmtKind-F}
use Rattle.star_trees.specs.Variables.{Names, each_binds, name_binds, no_binding}
use Rattle.star_trees.specs.Variables.{function_variables}
use Rattle.star_scopes.specs.Bindings.{loaded_binds}
use Rattle.star_scopes.specs.ExprMaking.{params_made}
use Rattle.star_scopes.specs.ExprMeaning.{meaning, param_meaning}
use Rattle.star_scopes.specs.ExprUses.{params_use, two_use}
use Rattle.star_scopes.specs.Making.{pure, finish}
use Rattle.star_scopes.specs.Meanings.{KindMeaning, ParamMeaning, StmtMeaning}
use Rattle.star_scopes.specs.Scopes.{variable}
use Rattle.star_scopes.specs.StatementBinds.{body_binds, kind_binds}
use Rattle.star_scopes.specs.StatementMaking.{def_code, load_of, load_made, body_made, if_made}
use Rattle.star_scopes.specs.StatementMaking.{for_made, return_made, assign_made, augment_made}
use Rattle.star_scopes.specs.StatementMaking.{value_made, def_made, kind_made, stmt_made}
use Rattle.star_scopes.specs.StatementMeaning.{kind_meaning, kind_step, stmt_meaning, stmt_step}
use Rattle.star_scopes.specs.StatementUses.{body_uses, def_uses, for_uses, if_uses, kind_uses}
use Rattle.star_scopes.specs.StatementUses.{return_uses}
use Rattle.star_scopes.specs.declared.dialects.Dialect.{Dialect}

module _ (free : Names) (scopes : List Names) where
  abbrev pub StmtFits : Whole → StmtMeaning → Stmt → Type 0
  StmtFits whole m made = Fits (stmt_in free whole.loads whole.around made) scopes m.bound

-- ---- meanings whose uses grow, and whose makings are sound where these are covered and the scope
-- has what they bind

pub record KindSound (dialect : Dialect) (free : Names) (m : KindMeaning) : Type 0 where
  pub keeps : Keeps m.bound
  pub grows : (scopes : List Names) → Grows (m.uses dialect scopes)
  pub kind : (line : ℕ) (scopes : List Names)
      → Bounded scopes m.bound
      → Covered free (m.uses dialect scopes)
      → Always free (λ whole made. Fits (kind_in free whole.loads whole.around made) scopes m.bound)
      (m.kind line free scopes)

pub record StmtSound (dialect : Dialect) (free : Names) (m : StmtMeaning) : Type 0 where
  pub keeps : Keeps m.bound
  pub grows : (scopes : List Names) → Grows (m.uses dialect scopes)
  pub stmt : (scopes : List Names)
      → Bounded scopes m.bound
      → Covered free (m.uses dialect scopes)
      → Always free (λ whole. StmtFits free scopes whole m) (m.stmt free scopes)

module _ (dialect : Dialect) (free : Names) where
  abbrev pub SoundKind : Type 0
  SoundKind = With (λ tree. KindSound dialect free (kind_meaning tree))

  abbrev pub SoundStmt : Type 0
  SoundStmt = With (λ tree. StmtSound dialect free (stmt_meaning tree))

-- ---- bindings keep what was bound before, and uses grow

name-keeps : (name : List ℕ) → Keeps (name_binds name)
name-keeps name = record { within = λ names. with_binding-within names name }

loaded-keep : (names : List BareLoadName) → Keeps (each_binds (map loaded_binds names))
loaded-keep [] = record { within = within-self }
loaded-keep (name ∷ names) = both-keep (name-keeps name.name.local) (loaded-keep names)

module _ (dialect : Dialect) (free : Names) where
  body-keeps : (body : List (SoundStmt dialect free))
      → Keeps (body_binds (map stmt_meaning (map bare body)))
  body-keeps body = binds-keep (λ (m : StmtMeaning). m.bound) _
      (each-of stmt_meaning (λ tree sound. sound.keeps) body)

  body-grows : (scopes : List Names) (body : List (SoundStmt dialect free))
      → Grows (body_uses dialect scopes (map stmt_meaning (map bare body)))
  unfolding body_uses
  body-grows scopes body = each-grows (λ one. one.uses dialect scopes) _
      (each-of stmt_meaning (λ tree sound. sound.grows scopes) body)

  all_params-grow : (scopes : List Names) (params : List BareParam)
      → Grows (params_use dialect scopes (map param_meaning params))
  unfolding params_use
  all_params-grow scopes params = each-grows (λ one. one.uses dialect scopes) _
      (each-sure param_meaning (λ tree. (param-sound dialect free tree).grows scopes) params)

  two-grow : (scopes : List Names) (one other : BareExpr)
      → Grows (two_use dialect scopes (meaning one) (meaning other))
  unfolding two_use
  two-grow scopes one other = both-grow ((expr-sound dialect free one).grows scopes)
      ((expr-sound dialect free other).grows scopes)

  if-grows : (scopes : List Names) (test : BareExpr) (chosen other : List (SoundStmt dialect free))
      → Grows (if_uses dialect scopes test (map stmt_meaning (map bare chosen)) (map stmt_meaning
      (map bare other)))
  unfolding if_uses
  if-grows scopes test chosen other = both-grow ((expr-sound dialect free test).grows scopes)
      (both-grow (body-grows scopes chosen) (body-grows scopes other))

  for-grows : (scopes : List Names) (to over : BareExpr) (body : List (SoundStmt dialect free))
      → Grows (for_uses dialect scopes to over (map stmt_meaning (map bare body)))
  unfolding for_uses
  for-grows scopes to over body = both-grow (two-grow scopes to over) (body-grows scopes body)

  return-grows : (scopes : List Names) (value : Option BareExpr)
      → Grows (return_uses dialect scopes value)
  unfolding return_uses
  return-grows scopes None = no_use-grows
  return-grows scopes (Some value) = (expr-sound dialect free value).grows scopes

  def-grows : (scopes : List Names) (params : List BareParam) (body : List (SoundStmt dialect free))
      → Grows (def_uses dialect scopes params (map stmt_meaning (map bare body)))
  unfolding def_uses
  def-grows scopes params body = both-grow (all_params-grow scopes params) (body-grows _ body)

-- ---- makings are sound

loaded-bound : (names : List BareLoadName)
    → map counted.loaded_binds (map (λ (loaded : BareLoadName). loaded.name) names)
    ≡ map loaded_binds names
loaded-bound [] = refl
loaded-bound (name ∷ names) = ap (λ more. loaded_binds name ∷ more) (loaded-bound names)

load-sound : (free : Names) (scopes : List Names) (file : List ℕ) (names : List BareLoadName)
    (line : ℕ)
    → Always free (λ whole made. Fits (kind_in free whole.loads whole.around made) scopes
    (each_binds (map loaded_binds names))) (load_made file names line)
unfolding load_made
load-sound free scopes file names line = first (load-good free (load_of file names line))
    (λ place known at. done known (st.Load place)
    (λ whole keeps. fits-by (is.fold_kind-Load (stmt_tallies free whole.loads whole.around) place)
    (record {
      counted = refl;
      bound = ap (λ (loaded : Load). each_binds (map counted.loaded_binds loaded.names))
          (at whole keeps) ∙ ap each_binds (loaded-bound names);
    })))

module _ (dialect : Dialect) (free : Names) (scopes : List Names) where
  all_params-sound : (params : List BareParam)
      → Covered free (params_use dialect scopes (map param_meaning params))
      → Always free (λ whole. Pairwise (ParamFits free scopes whole) (map param_meaning params))
      (params_made free scopes (map param_meaning params))
  unfolding params_made params_use
  all_params-sound params covered = each-good (ParamFits free scopes)
      (λ one. one.uses dialect scopes) (λ one. one.param free scopes) _
      (each-sure param_meaning
      (λ tree. let sound = param-sound dialect free tree in record
      { grows = sound.grows scopes; sound = sound.param scopes }) params) covered

  body-sound : (body : List (SoundStmt dialect free))
      → Bounded scopes (body_binds (map stmt_meaning (map bare body)))
      → Covered free (body_uses dialect scopes (map stmt_meaning (map bare body)))
      → Always free (λ whole. Pairwise (StmtFits free scopes whole) (map stmt_meaning (map bare
      body))) (body_made free scopes (map stmt_meaning (map bare body)))
  unfolding body_made body_uses
  body-sound body bounded covered = each-good (StmtFits free scopes)
      (λ one. one.uses dialect scopes) (λ one. one.stmt free scopes) _
      (each-apply _ (each-of stmt_meaning (λ tree sound bounded. record {
        grows = sound.grows
            scopes;
        sound = sound.stmt scopes bounded;
      }) body)
      (each-bounded scopes (λ (m : StmtMeaning). m.bound) _
      (each-of stmt_meaning (λ tree sound. sound.keeps) body) bounded)) covered

  -- a statement that binds nothing
  abbrev Plain : Whole → StmtKind → Type 0
  Plain whole made = Fits (kind_in free whole.loads whole.around made) scopes no_binding

  if-sound : (test : BareExpr) (chosen other : List (SoundStmt dialect free))
      → Bounded scopes (λ names. body_binds (map stmt_meaning (map bare other)) (body_binds (map
      stmt_meaning (map bare chosen)) names))
      → Covered free (if_uses dialect scopes test (map stmt_meaning (map bare chosen)) (map
      stmt_meaning (map bare other)))
      → Always free (λ whole made. Fits (kind_in free whole.loads whole.around made) scopes (λ
      names. body_binds (map stmt_meaning (map bare other))
      (body_binds (map stmt_meaning (map bare chosen)) names)))
      (if_made free scopes test (map stmt_meaning (map bare chosen))
      (map stmt_meaning (map bare other)))
  unfolding if_made if_uses
  if-sound test chosen other bounded covered =
      let others_grow = body-grows dialect free scopes other in
      let rest = second-covered _ covered in
      first ((expr-sound dialect free test).expr scopes (first-covered (both-grow (body-grows
      dialect free scopes chosen) others_grow) covered)) (λ made known one.
      then (body-sound chosen (first-bounded scopes (body_binds (map stmt_meaning (map bare
      chosen))) (body_binds (map stmt_meaning (map bare other)))
      (body-keeps dialect free other) bounded) (first-covered others_grow rest))
      (λ made_chosen later up two.
      then (body-sound other (second-bounded scopes (body_binds (map stmt_meaning (map bare
      chosen))) (body_binds (map stmt_meaning (map bare other))) bounded)
      (second-covered _ rest)) (λ made_other last further three.
      done last (st.If made made_chosen made_other) (λ whole keeps.
      let before = back further keeps in
      let tally = stmt_in free whole.loads whole.around in
      fits-by (is.fold_kind-If (stmt_tallies free whole.loads whole.around) made made_chosen
      made_other) (record {
        counted = and_from _ _ (one whole (back up before)).counted
            (and_from _ _ (all-fit tally (λ m. m.bound) scopes _ made_chosen (two whole before))
            (all-fit tally (λ m. m.bound) scopes _ made_other (three whole keeps)));
        bound = λ i. λ names. each_binds
            (all-bound tally (λ m. m.bound) scopes _ made_other (three whole keeps) i)
            (each_binds (all-bound tally (λ m. m.bound) scopes _ made_chosen (two whole before) i)
            names);
      })))))

  for-sound : (to over : BareExpr) (body : List (SoundStmt dialect free))
      → Bounded scopes (λ names. body_binds (map stmt_meaning (map bare body)) ((meaning to).bound
      names))
      → Covered free (for_uses dialect scopes to over (map stmt_meaning (map bare body)))
      → Always free (λ whole made. Fits (kind_in free whole.loads whole.around made) scopes (λ
      names. body_binds (map stmt_meaning (map bare body)) ((meaning to).bound names)))
      (for_made free scopes to over (map stmt_meaning (map bare body)))
  unfolding for_made for_uses two_use
  for-sound to over body bounded covered =
      let body_grows = body-grows dialect free scopes body in
      let head = first-covered body_grows covered in
      first ((expr-sound dialect free to).target scopes (first-covered ((expr-sound dialect free
      over).grows scopes) head)) (λ made_to known one.
      then ((expr-sound dialect free over).expr scopes (second-covered _ head))
      (λ made_over later up two.
      then (body-sound body (second-bounded scopes (meaning to).bound (body_binds (map stmt_meaning
      (map bare body))) bounded) (second-covered _ covered)) (λ made last further three.
      done last (st.For made_to made_over made) (λ whole keeps.
      let before = back further keeps in
      let target = one whole (back up before) in
      let tally = stmt_in free whole.loads whole.around in
      fits-by (is.fold_kind-For (stmt_tallies free whole.loads whole.around) made_to made_over made)
      (record {
        counted = and_from _ _ target.counted
            (and_from _ _ (two whole before).counted
            (all-fit tally (λ m. m.bound) scopes _ made (three whole keeps)));
        bound = λ i. λ names. each_binds
            (all-bound tally (λ m. m.bound) scopes _ made (three whole keeps) i)
            (target.bound i names);
      })))))

  return-sound : (value : Option BareExpr)
      → Covered free (return_uses dialect scopes value)
      → Always free Plain (return_made free scopes value)
  unfolding return_made return_uses
  return-sound None covered = only (st.Return None)
      (λ whole. fits-by (is.fold_kind-Return (stmt_tallies free whole.loads whole.around) None)
      (plain-fits refl))
  return-sound (Some value) covered = first ((expr-sound dialect free value).expr scopes covered)
      (λ made known one. done known (st.Return (Some made))
      (λ whole keeps. fits-by
      (is.fold_kind-Return (stmt_tallies free whole.loads whole.around) (Some made))
      (plain-fits (one whole keeps).counted)))

  assign-sound : (to value : BareExpr)
      → Covered free (two_use dialect scopes (meaning to) (meaning value))
      → Always free (λ whole made. Fits (kind_in free whole.loads whole.around made) scopes (meaning
      to).bound) (assign_made free scopes to value)
  unfolding assign_made two_use
  assign-sound to value covered =
      first ((expr-sound dialect free to).target scopes (first-covered ((expr-sound dialect free
      value).grows scopes) covered)) (λ made_to known one.
      then ((expr-sound dialect free value).expr scopes (second-covered _ covered))
      (λ made later up two.
      done later (st.Assign made_to made) (λ whole keeps.
      let target = one whole (back up keeps) in
      fits-by (is.fold_kind-Assign (stmt_tallies free whole.loads whole.around) made_to made)
      (record {
        counted = and_from _ _ target.counted
            (two whole keeps).counted;
        bound = target.bound;
      }))))

  augment-sound : (place : BareExpr) (op : BinOp) (value : BareExpr)
      → Covered free (two_use dialect scopes (meaning place) (meaning value))
      → Always free (λ whole made. Fits (kind_in free whole.loads whole.around made) scopes (meaning
      place).bound) (augment_made free scopes place op value)
  unfolding augment_made two_use
  augment-sound place op value covered =
      first ((expr-sound dialect free place).expr scopes (first-covered ((expr-sound dialect free
      value).grows scopes) covered)) (λ made_place known one.
      then ((expr-sound dialect free value).expr scopes (second-covered _ covered))
      (λ made later up two.
      done later (st.Augment made_place op made) (λ whole keeps.
      let target = one whole (back up keeps) in
      fits-by (is.fold_kind-Augment (stmt_tallies free whole.loads whole.around) made_place op made)
      (record {
        counted = and_from _ _ target.counted
            (two whole keeps).counted;
        bound = target.bound;
      }))))

  value-sound : (value : BareExpr)
      → Covered free ((meaning value).uses dialect scopes)
      → Always free Plain (value_made free scopes value)
  unfolding value_made
  value-sound value covered = first ((expr-sound dialect free value).expr scopes covered)
      (λ made known one. done known (st.Value made)
      (λ whole keeps. fits-by (is.fold_kind-Value (stmt_tallies free whole.loads whole.around) made)
      (plain-fits (one whole keeps).counted)))

def-sound : (dialect : Dialect) (free : Names) (scopes : List Names) (name : BareName)
    (params : List BareParam) (body : List (SoundStmt dialect free)) (line : ℕ)
    → Bounded scopes (name_binds name.name)
    → Covered free (def_uses dialect scopes params (map stmt_meaning (map bare body)))
    → Always free (λ whole made. Fits (kind_in free whole.loads whole.around made) scopes
    (name_binds name.name))
    (def_made free scopes name params (map stmt_meaning (map bare body)) line)
unfolding def_made def_uses
def-sound dialect free scopes name params body line bounded covered =
    let bounds = map (λ (param : ParamMeaning). param.bound) (map param_meaning params) in
    let body_bounds = map (λ (one : StmtMeaning). one.bound) (map stmt_meaning (map bare body)) in
    let inner = function_variables bounds body_bounds ∷ scopes in
    let to = variable free scopes name.name in
    first (begin-good free scopes) (λ place known at.
    then (all_params-sound dialect free scopes params (first-covered (body-grows dialect free inner
    body) covered)) (λ made_params later up one.
    then (body-sound dialect free inner body (record {
      before = each_binds bounds [];
      within =
          within-self _;
    }) (second-covered _ covered)) (λ made last further two.
    let code = def_code name.name made_params made line in
    bind-good {making = finish place code} {next = λ _. pure (st.Def place to)}
    (finish-good free last place code (λ whole keeps.
    let before = back further keeps in
    let params_fit = one whole before in
    let body_fit = two whole keeps in
    let tally = param_tally free whole.loads whole.around in
    let stmt_tally = stmt_in free whole.loads whole.around in
    let same_variables : function_variables (map bound_of (map tally made_params))
    (map bound_of (map stmt_tally made))
    ≡ function_variables bounds body_bounds = λ i. function_variables
    (all-bound tally (λ m. m.bound) scopes _ made_params params_fit i)
    (all-bound stmt_tally (λ m. m.bound) inner _ made body_fit i) in
    subst (λ around. code_counted free whole.loads whole.around code around ≡ true)
    (sym (at whole (back up before)))
    (and_from _ _ (all-fit tally (λ m. m.bound) scopes _ made_params params_fit)
    (subst (λ variables. all_counted (map stmt_tally made) (variables ∷ scopes) ≡ true)
    (sym same_variables) (all-fit stmt_tally (λ m. m.bound) inner _ made body_fit)))))
    (λ _ end more _.
    done end (st.Def place to)
    (λ whole keeps. fits-by
    (is.fold_kind-Def (stmt_tallies free whole.loads whole.around) place to) (record {
      counted = and_from _ _
          (subst (λ around. same_scopes around scopes ≡ true)
          (sym (at whole (back up (back further (back more keeps))))) (same_scopes-self scopes))
          (variable-counted free scopes name.name (bound-there free scopes name.name bounded));
      bound = ap name_binds (variable-named free scopes name.name);
    }))))))

-- ---- a construct of sound parts is sound

module _ (dialect : Dialect) (free : Names) where
  abbrev KindLayer : Type 0
  KindLayer = KindParts (KindSound dialect free) (StmtSound dialect free)

  abbrev StmtLayer : Type 0
  StmtLayer = StmtParts (KindSound dialect free) (StmtSound dialect free)

  abbrev kind-of : KindLayer → BareStmtKind-F KindMeaning StmtMeaning
  kind-of = meant-kind (KindSound dialect free) (StmtSound dialect free)

  kind-binds-keep : (layer : KindLayer) → Keeps (kind_binds (kind-of layer))
  kind-binds-keep (BareStmtKind-F.Def name params body) = name-keeps name.name
  kind-binds-keep (BareStmtKind-F.If test chosen other) = both-keep (body-keeps dialect free chosen)
      (body-keeps dialect free other)
  kind-binds-keep (BareStmtKind-F.For to over body) = both-keep (expr-sound dialect free to).keeps
      (body-keeps dialect free body)
  kind-binds-keep (BareStmtKind-F.Return value) = record { within = within-self }
  kind-binds-keep BareStmtKind-F.Break = record { within = within-self }
  kind-binds-keep BareStmtKind-F.Continue = record { within = within-self }
  kind-binds-keep BareStmtKind-F.Pass = record { within = within-self }
  kind-binds-keep (BareStmtKind-F.Load file loaded) = loaded-keep loaded
  kind-binds-keep (BareStmtKind-F.Assign to value) = (expr-sound dialect free to).keeps
  kind-binds-keep (BareStmtKind-F.Augment place op value) = (expr-sound dialect free place).keeps
  kind-binds-keep (BareStmtKind-F.Value value) = record { within = within-self }

  kind-uses-grow : (layer : KindLayer) (scopes : List Names)
      → Grows (kind_uses (kind-of layer) dialect scopes)
  kind-uses-grow (BareStmtKind-F.Def name params body) scopes = def-grows dialect free scopes params
      body
  kind-uses-grow (BareStmtKind-F.If test chosen other) scopes = if-grows dialect free scopes test
      chosen other
  kind-uses-grow (BareStmtKind-F.For to over body) scopes = for-grows dialect free scopes to over
      body
  kind-uses-grow (BareStmtKind-F.Return value) scopes = return-grows dialect free scopes value
  kind-uses-grow BareStmtKind-F.Break scopes = no_use-grows
  kind-uses-grow BareStmtKind-F.Continue scopes = no_use-grows
  kind-uses-grow BareStmtKind-F.Pass scopes = no_use-grows
  kind-uses-grow (BareStmtKind-F.Load file names) scopes = no_use-grows
  kind-uses-grow (BareStmtKind-F.Assign to value) scopes = two-grow dialect free scopes to value
  kind-uses-grow (BareStmtKind-F.Augment place op value) scopes = two-grow dialect free scopes place
      value
  kind-uses-grow (BareStmtKind-F.Value value) scopes = (expr-sound dialect free value).grows scopes

  kind-layer : (layer : KindLayer) (line : ℕ) (scopes : List Names)
      → Bounded scopes (kind_binds (kind-of layer))
      → Covered free (kind_uses (kind-of layer) dialect scopes)
      → Always free (λ whole made. Fits (kind_in free whole.loads whole.around made) scopes
      (kind_binds (kind-of layer))) (kind_made (kind-of layer) line free scopes)
  kind-layer (BareStmtKind-F.Def name params body) line scopes bounded covered = def-sound dialect
      free scopes name params body line bounded covered
  kind-layer (BareStmtKind-F.If test chosen other) line scopes bounded covered = if-sound dialect
      free scopes test chosen other bounded covered
  kind-layer (BareStmtKind-F.For to over body) line scopes bounded covered = for-sound dialect free
      scopes to over body bounded covered
  kind-layer (BareStmtKind-F.Return value) line scopes bounded covered = return-sound dialect free
      scopes value covered
  kind-layer BareStmtKind-F.Break line scopes bounded covered = only st.Break
      (λ whole. fits-by (is.fold_kind-Break (stmt_tallies free whole.loads whole.around))
      (plain-fits refl))
  kind-layer BareStmtKind-F.Continue line scopes bounded covered = only st.Continue
      (λ whole. fits-by (is.fold_kind-Continue (stmt_tallies free whole.loads whole.around))
      (plain-fits refl))
  kind-layer BareStmtKind-F.Pass line scopes bounded covered = only st.Pass
      (λ whole. fits-by (is.fold_kind-Pass (stmt_tallies free whole.loads whole.around))
      (plain-fits refl))
  kind-layer (BareStmtKind-F.Load file names) line scopes bounded covered = load-sound free scopes
      file names line
  kind-layer (BareStmtKind-F.Assign to value) line scopes bounded covered = assign-sound dialect
      free scopes to value covered
  kind-layer (BareStmtKind-F.Augment place op value) line scopes bounded covered = augment-sound
      dialect free scopes place op value covered
  kind-layer (BareStmtKind-F.Value value) line scopes bounded covered = value-sound dialect free
      scopes value covered

  stmt-layer : (kind : SoundKind dialect free) (line : ℕ) (scopes : List Names)
      → Bounded scopes (kind_meaning kind.0).bound
      → Covered free ((kind_meaning kind.0).uses dialect scopes)
      → Always free (λ whole made. Fits (stmt_in free whole.loads whole.around made) scopes
      (kind_meaning kind.0).bound) (stmt_made (kind_meaning kind.0) line free scopes)
  unfolding stmt_made
  stmt-layer kind line scopes bounded covered = first (kind.1.kind line scopes bounded covered)
      (λ made known one. done known (roll-Stmt (record { line = line; kind = made }))
      (λ whole keeps. fits-by
      (is.fold_stmt-roll (stmt_tallies free whole.loads whole.around) line made) (one whole keeps)))

  kind-sound : (layer : KindLayer) → KindSound dialect free (kind_step (kind-of layer))
  kind-sound layer = record
      { keeps = kind-binds-keep layer; grows = kind-uses-grow layer; kind = kind-layer layer }

  layer-sound : (layer : StmtLayer)
      → StmtSound dialect free
      (stmt_step (meant-stmt (KindSound dialect free) (StmtSound dialect free) layer))
  layer-sound layer = record {
    keeps = layer.kind.1.keeps;
    grows = layer.kind.1.grows;
    stmt = stmt-layer layer.kind
        layer.line;
  }

  pub stmt-sound : (tree : BareStmt) → StmtSound dialect free (stmt_meaning tree)
  stmt-sound = of-stmt (KindSound dialect free) (StmtSound dialect free) kind-sound layer-sound

  pub all-sound : (scopes : List Names) (body : List BareStmt)
      → Bounded scopes (body_binds (map stmt_meaning body))
      → Covered free (body_uses dialect scopes (map stmt_meaning body))
      → Always free (λ whole. Pairwise (StmtFits free scopes whole) (map stmt_meaning body))
      (body_made free scopes (map stmt_meaning body))
  unfolding body_made body_uses
  all-sound scopes body bounded covered = each-good (StmtFits free scopes)
      (λ one. one.uses dialect scopes) (λ one. one.stmt free scopes) _
      (each-apply _ (each-sure stmt_meaning (λ tree bounded. let sound = stmt-sound tree in record {
        grows = sound.grows scopes;
        sound = sound.stmt scopes bounded;
      }) body)
      (each-bounded scopes (λ (m : StmtMeaning). m.bound) _
      (each-sure stmt_meaning (λ tree. (stmt-sound tree).keeps) body) bounded)) covered
