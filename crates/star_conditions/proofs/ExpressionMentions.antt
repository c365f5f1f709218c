-- The functions of which speaks what is made of expressions.
use Rattle.std.proofs.Common.{ℕ, false, List, [], ◌∷◌, ◌++◌, map, Option, Some, None, option_map}
use Rattle.std.proofs.Common.{refl}
use Rattle.star_conditions.proofs.MentionsMade.{Tells, then, done, each-tells, function-tells}
use Rattle.star_trees.proofs.Folds as is
use Rattle.star_conditions.proofs.MeaningInduction.{ArgParts, ClauseParts, ExprParts, ParamParts}
use Rattle.star_conditions.proofs.MeaningInduction.{PairParts, meant-arg, meant-clause, meant-expr}
use Rattle.star_conditions.proofs.MeaningInduction.{meant-pair, meant-param, of-expr, of-param}
use Rattle.star_conditions.proofs.Trees.{With, bare}
use Rattle.star_trees.specs.Mentions.{Mention, all_mentions, exprs_mention, maybe_mentions}
use Rattle.star_trees.specs.Mentions.{mentions_of_arg, mentions_of_clause, mentions_of_expr}
use Rattle.star_trees.specs.Mentions.{mentions_of_pair, mentions_of_param, mentions_of_target}
use Rattle.star_trees.specs.declared.trees.Arg as arg_tree
use Rattle.star_trees.specs.declared.trees.BinOp.{BinOp}
use Rattle.star_trees.specs.declared.trees.Clause as clause_tree
use Rattle.star_trees.specs.declared.trees.Expr as e
use Rattle.star_trees.specs.declared.trees.Expr.{Expr}
use Rattle.star_trees.specs.declared.trees.ExprPair.{roll-ExprPair}
use Rattle.star_trees.specs.declared.trees.Target as target_tree
use Rattle.star_trees.specs.declared.trees.UnOp.{UnOp}
use Rattle.star_trees.specs.declared.files.Param.{Param}
use Rattle.star_trees.specs.declared.files.Param.TheVariants as param_tree
use Rattle.star_grammar.specs.declared.bare_expressions.BareArg.TheOpen.{BareArg-F, BareClause-F}
use Rattle.star_grammar.specs.declared.bare_expressions.BareArg.TheOpen.{BareExpr-F, BareParam-F}
use Rattle.star_grammar.specs.declared.bare_expressions.BareExpr.{BareExpr}
use Rattle.star_grammar.specs.declared.bare_expressions.BareParam.{BareParam}
use Rattle.star_trees.specs.Variables.{Names, variables}
use Rattle.star_scopes.specs.ExprMaking.{arg_made, clause_made, expr_made, param_made, target_made}
use Rattle.star_scopes.specs.ExprMaking.{items_made, pairs_made, args_made, params_made}
use Rattle.star_scopes.specs.ExprMaking.{targets_made, maybe_made, list_made, tuple_made, dict_made}
use Rattle.star_scopes.specs.ExprMaking.{more_clauses_made, some_clauses_made, clauses_made}
use Rattle.star_scopes.specs.ExprMaking.{list_comp_made, dict_comp_made, unary_made, binary_made}
use Rattle.star_scopes.specs.ExprMaking.{cond_made, lambda_made, lambda_code, attr_made, index_made}
use Rattle.star_scopes.specs.ExprMaking.{slice_made, call_made, index_target, many_target}
use Rattle.star_scopes.specs.ExprMaking.{named_arg_made, optional_made, pair_made, for_clause_made}
use Rattle.star_scopes.specs.ExprMeaning.{arg_meaning, arg_step, clause_meaning, clause_step}
use Rattle.star_scopes.specs.ExprMeaning.{expr_step, meaning, pair_meaning, pair_step}
use Rattle.star_scopes.specs.ExprMeaning.{param_meaning, param_step}
use Rattle.star_scopes.specs.Making.{Making, ◌>>=◌, pure}
use Rattle.star_scopes.specs.Meanings.{ArgMeaning, ClauseMeaning, ExprMeaning, PairMeaning}
use Rattle.star_scopes.specs.Meanings.{ParamMeaning}
use Rattle.star_scopes.specs.Scopes.{variable}

-- ---- meanings whose makings tell of their functions

pub record ExprTells (m : ExprMeaning) : Type 0 where
  pub expr : (free : Names) (scopes : List Names) → Tells mentions_of_expr [] (m.expr free scopes)
  pub target : (free : Names) (scopes : List Names)
      → Tells mentions_of_target [] (m.target free scopes)

pub record ArgTells (m : ArgMeaning) : Type 0 where
  pub arg : (free : Names) (scopes : List Names) → Tells mentions_of_arg [] (m.arg free scopes)

pub record ClauseTells (m : ClauseMeaning) : Type 0 where
  pub clause : (free : Names) (inner around : List Names)
      → Tells mentions_of_clause [] (m.clause free inner around)

pub record ParamTells (m : ParamMeaning) : Type 0 where
  pub param : (free : Names) (scopes : List Names)
      → Tells mentions_of_param [] (m.param free scopes)

pub record PairTells (m : PairMeaning) : Type 0 where
  pub pair : (free : Names) (scopes : List Names) → Tells mentions_of_pair [] (m.pair free scopes)

abbrev pub ToldExpr : Type 0
ToldExpr = With (λ tree. ExprTells (meaning tree))

abbrev pub ToldArg : Type 0
ToldArg = With (λ tree. ArgTells (arg_meaning tree))

abbrev pub ToldClause : Type 0
ToldClause = With (λ tree. ClauseTells (clause_meaning tree))

abbrev pub ToldParam : Type 0
ToldParam = With (λ tree. ParamTells (param_meaning tree))

abbrev pub ToldPair : Type 0
ToldPair = With (λ tree. PairTells (pair_meaning tree))

-- those of each
abbrev pub of_each : {A : Type 0} → (A → List Mention) → List A → List Mention
of_each f made = all_mentions (map f made)

module _ (free : Names) (scopes : List Names) where
  pub items-tells : (items : List ToldExpr)
      → Tells (of_each mentions_of_expr) [] (items_made free scopes (map meaning (map bare items)))
  unfolding items_made
  items-tells = each-tells mentions_of_expr (λ item. item.expr free scopes) meaning
      (λ tree tells. tells.expr free scopes)

  pub pairs-tells : (pairs : List ToldPair)
      → Tells (of_each mentions_of_pair) []
      (pairs_made free scopes (map pair_meaning (map bare pairs)))
  unfolding pairs_made
  pairs-tells = each-tells mentions_of_pair (λ pair. pair.pair free scopes) pair_meaning
      (λ tree tells. tells.pair free scopes)

  pub args-tells : (args : List ToldArg)
      → Tells (of_each mentions_of_arg) [] (args_made free scopes (map arg_meaning (map bare args)))
  unfolding args_made
  args-tells = each-tells mentions_of_arg (λ arg. arg.arg free scopes) arg_meaning
      (λ tree tells. tells.arg free scopes)

  pub params-tells : (params : List ToldParam)
      → Tells (of_each mentions_of_param) []
      (params_made free scopes (map param_meaning (map bare params)))
  unfolding params_made
  params-tells = each-tells mentions_of_param (λ param. param.param free scopes) param_meaning
      (λ tree tells. tells.param free scopes)

  pub targets-tells : (targets : List ToldExpr)
      → Tells (of_each mentions_of_target) []
      (targets_made free scopes (map meaning (map bare targets)))
  unfolding targets_made
  targets-tells = each-tells mentions_of_target (λ target. target.target free scopes) meaning
      (λ tree tells. tells.target free scopes)

  pub maybe-tells : (bound : Option ToldExpr)
      → Tells (λ made. maybe_mentions (option_map mentions_of_expr made)) []
      (maybe_made free scopes (option_map meaning (option_map bare bound)))
  unfolding maybe_made
  maybe-tells None = done None refl
  maybe-tells (Some bound) = then (bound.1.expr free scopes) (λ made. done (Some made) refl)

  pub list-tells : (items : List ToldExpr)
      → Tells mentions_of_expr [] (list_made free scopes (map meaning (map bare items)))
  unfolding list_made
  list-tells items =
      then (items-tells items) (λ made. done (e.List made) (is.fold_expr-List exprs_mention made))

  pub tuple-tells : (items : List ToldExpr)
      → Tells mentions_of_expr [] (tuple_made free scopes (map meaning (map bare items)))
  unfolding tuple_made
  tuple-tells items =
      then (items-tells items) (λ made. done (e.Tuple made) (is.fold_expr-Tuple exprs_mention made))

  pub dict-tells : (pairs : List ToldPair)
      → Tells mentions_of_expr [] (dict_made free scopes (map pair_meaning (map bare pairs)))
  unfolding dict_made
  dict-tells pairs =
      then (pairs-tells pairs) (λ made. done (e.Dict made) (is.fold_expr-Dict exprs_mention made))

  pub more_clauses-tells : (inner : List Names) (clauses : List ToldClause)
      → Tells (of_each mentions_of_clause) []
      (more_clauses_made free scopes inner (map clause_meaning (map bare clauses)))
  unfolding more_clauses_made
  more_clauses-tells inner = each-tells mentions_of_clause
      (λ clause. clause.clause free inner inner) clause_meaning
      (λ tree tells. tells.clause free inner inner)

  pub some_clauses-tells : (inner : List Names) (first : ToldClause) (more : List ToldClause)
      → Tells (of_each mentions_of_clause) []
      (some_clauses_made free scopes inner (clause_meaning first.0)
      (map clause_meaning (map bare more)))
  unfolding some_clauses_made
  some_clauses-tells inner first more =
      then (first.1.clause free inner scopes) (λ made.
      then (more_clauses-tells inner more) (λ others.
      done (made ∷ others) refl))

  pub clauses-tells : (inner : List Names) (clauses : List ToldClause)
      → Tells (of_each mentions_of_clause) []
      (clauses_made free scopes inner (map clause_meaning (map bare clauses)))
  unfolding clauses_made
  clauses-tells inner [] = done [] refl
  clauses-tells inner (first ∷ more) = some_clauses-tells inner first more

  pub list_comp-tells : (item : ToldExpr) (clauses : List ToldClause)
      → Tells mentions_of_expr []
      (list_comp_made free scopes (meaning item.0) (map clause_meaning (map bare clauses)))
  unfolding list_comp_made
  list_comp-tells item clauses =
      let inner = variables
      (map (λ clause. clause.bound) (map clause_meaning (map bare clauses))) ∷ scopes in
      then (item.1.expr free inner) (λ made.
      then (clauses-tells inner clauses) (λ others.
      done (e.ListComp made others) (is.fold_expr-ListComp exprs_mention made others)))

  pub dict_comp-tells : (key value : ToldExpr) (clauses : List ToldClause)
      → Tells mentions_of_expr []
      (dict_comp_made free scopes (meaning key.0) (meaning value.0)
      (map clause_meaning (map bare clauses)))
  unfolding dict_comp_made
  dict_comp-tells key value clauses =
      let inner = variables
      (map (λ clause. clause.bound) (map clause_meaning (map bare clauses))) ∷ scopes in
      then (key.1.expr free inner) (λ made_key.
      then (value.1.expr free inner) (λ made.
      then (clauses-tells inner clauses) (λ others.
      done (e.DictComp made_key made others)
      (is.fold_expr-DictComp exprs_mention made_key made others))))

  pub unary-tells : (op : UnOp) (operand : ToldExpr)
      → Tells mentions_of_expr [] (unary_made free scopes op (meaning operand.0))
  unfolding unary_made
  unary-tells op operand = then (operand.1.expr free scopes)
      (λ made. done (e.Unary op made) (is.fold_expr-Unary exprs_mention op made))

  pub binary-tells : (op : BinOp) (left right : ToldExpr)
      → Tells mentions_of_expr [] (binary_made free scopes op (meaning left.0) (meaning right.0))
  unfolding binary_made
  binary-tells op left right =
      then (left.1.expr free scopes) (λ made.
      then (right.1.expr free scopes) (λ other.
      done (e.Binary op made other) (is.fold_expr-Binary exprs_mention op made other)))

  pub cond-tells : (test chosen other : ToldExpr)
      → Tells mentions_of_expr []
      (cond_made free scopes (meaning test.0) (meaning chosen.0) (meaning other.0))
  unfolding cond_made
  cond-tells test chosen other =
      then (chosen.1.expr free scopes) (λ made_chosen.
      then (test.1.expr free scopes) (λ made_test.
      then (other.1.expr free scopes) (λ made_other.
      done (e.Cond made_test made_chosen made_other)
      (is.fold_expr-Cond exprs_mention made_test made_chosen made_other))))

  pub lambda-tells : (params : List ToldParam) (body : ToldExpr) (line : ℕ)
      → Tells mentions_of_expr []
      (lambda_made free scopes (map param_meaning (map bare params)) (meaning body.0) line)
  unfolding lambda_made
  lambda-tells params body line =
      let inner = variables
      (map (λ param. param.bound) (map param_meaning (map bare params))) ∷ scopes in
      let parts : Making (List Param × Expr) = params_made free scopes
      (map param_meaning (map bare params)) >>=
      (λ made_params. (meaning body.0).expr free inner >>=
      (λ made. pure (made_params, made))) in
      function-tells {f = λ (both : List Param × Expr). of_each mentions_of_param both.0
      ++ mentions_of_expr both.1} false parts (λ made. lambda_code made.0 made.1 line)
      (λ index. e.Lambda index)
      (then (params-tells params) (λ made_params.
      then (body.1.expr free inner) (λ made.
      done (made_params, made) refl)))
      (λ made. refl)
      (λ made. refl)
      (λ index. is.fold_expr-Lambda exprs_mention index)

  pub attr-tells : (container : ToldExpr) (name : List ℕ)
      → Tells mentions_of_expr [] (attr_made free scopes (meaning container.0) name)
  unfolding attr_made
  attr-tells container name = then (container.1.expr free scopes)
      (λ made. done (e.Attr made name) (is.fold_expr-Attr exprs_mention made name))

  pub index-tells : (container at : ToldExpr)
      → Tells mentions_of_expr [] (index_made free scopes (meaning container.0) (meaning at.0))
  unfolding index_made
  index-tells container at =
      then (container.1.expr free scopes) (λ made.
      then (at.1.expr free scopes) (λ made_at.
      done (e.Index made made_at) (is.fold_expr-Index exprs_mention made made_at)))

  pub slice-tells : (container : ToldExpr) (begin end step : Option ToldExpr)
      → Tells mentions_of_expr []
      (slice_made free scopes (meaning container.0) (option_map meaning (option_map bare begin))
      (option_map meaning (option_map bare end)) (option_map meaning (option_map bare step)))
  unfolding slice_made
  slice-tells container begin end step =
      then (container.1.expr free scopes) (λ made.
      then (maybe-tells begin) (λ made_begin.
      then (maybe-tells end) (λ made_end.
      then (maybe-tells step) (λ made_step.
      done (e.Slice made made_begin made_end made_step)
      (is.fold_expr-Slice exprs_mention made made_begin made_end made_step)))))

  pub call-tells : (function : ToldExpr) (args : List ToldArg)
      → Tells mentions_of_expr []
      (call_made free scopes (meaning function.0) (map arg_meaning (map bare args)))
  unfolding call_made
  call-tells function args =
      then (function.1.expr free scopes) (λ made.
      then (args-tells args) (λ made_args.
      done (e.Call made made_args) (is.fold_expr-Call exprs_mention made made_args)))

  pub index_target-tells : (container at : ToldExpr)
      → Tells mentions_of_target [] (index_target free scopes (meaning container.0) (meaning at.0))
  unfolding index_target
  index_target-tells container at =
      then (container.1.expr free scopes) (λ made.
      then (at.1.expr free scopes) (λ made_at.
      done (target_tree.Index made made_at) (is.fold_target-Index exprs_mention made made_at)))

  pub many_target-tells : (targets : List ToldExpr)
      → Tells mentions_of_target [] (many_target free scopes (map meaning (map bare targets)))
  unfolding many_target
  many_target-tells targets = then (targets-tells targets)
      (λ made. done (target_tree.Many made) (is.fold_target-Many exprs_mention made))

  pub named_arg-tells : (name : List ℕ) (value : ToldExpr)
      → Tells mentions_of_arg [] (named_arg_made free scopes name (meaning value.0))
  unfolding named_arg_made
  named_arg-tells name value = then (value.1.expr free scopes)
      (λ made. done (arg_tree.Named name made) (is.fold_arg-Named exprs_mention name made))

  pub optional-tells : (name : List ℕ) (default : ToldExpr)
      → Tells mentions_of_param [] (optional_made free scopes name (meaning default.0))
  unfolding optional_made
  optional-tells name default =
      then (default.1.expr free scopes) (λ made. done (param_tree.Optional name made) refl)

  pub pair-tells : (key value : ToldExpr)
      → Tells mentions_of_pair [] (pair_made free scopes (meaning key.0) (meaning value.0))
  unfolding pair_made
  pair-tells key value =
      then (key.1.expr free scopes) (λ made_key.
      then (value.1.expr free scopes) (λ made.
      done (roll-ExprPair (record { key = made_key; value = made }))
      (is.fold_pair-roll exprs_mention made_key made)))

pub for_clause-tells : (free : Names) (inner around : List Names) (to over : ToldExpr)
    → Tells mentions_of_clause []
    (for_clause_made free inner around (meaning to.0) (meaning over.0))
unfolding for_clause_made
for_clause-tells free inner around to over =
    then (to.1.target free inner) (λ made_to.
    then (over.1.expr free around) (λ made.
    done (clause_tree.For made_to made) (is.fold_clause-For exprs_mention made_to made)))

-- ---- a construct of such parts is such

expr-layer :
    (layer : ExprParts ArgTells ClauseTells ExprTells ParamTells PairTells) (free : Names)
    (scopes : List Names)
    → Tells mentions_of_expr []
    (expr_made (meant-expr ArgTells ClauseTells ExprTells ParamTells PairTells layer) free scopes)
expr-layer (BareExpr-F.Name name) free scopes =
    done _ (is.fold_expr-Name exprs_mention (variable free scopes name.name))
expr-layer (BareExpr-F.Int value) free scopes = done _ (is.fold_expr-Int exprs_mention value)
expr-layer (BareExpr-F.Text text) free scopes = done _ (is.fold_expr-Text exprs_mention text)
expr-layer (BareExpr-F.List items) free scopes = list-tells free scopes items
expr-layer (BareExpr-F.Tuple items) free scopes = tuple-tells free scopes items
expr-layer (BareExpr-F.Dict pairs) free scopes = dict-tells free scopes pairs
expr-layer (BareExpr-F.ListComp item clauses) free scopes = list_comp-tells free scopes item clauses
expr-layer (BareExpr-F.DictComp key value clauses) free scopes =
    dict_comp-tells free scopes key value clauses
expr-layer (BareExpr-F.Bracketed inside) free scopes = inside.1.expr free scopes
expr-layer (BareExpr-F.Unary op operand) free scopes = unary-tells free scopes op operand
expr-layer (BareExpr-F.Binary op left right) free scopes = binary-tells free scopes op left right
expr-layer (BareExpr-F.Cond test chosen other) free scopes =
    cond-tells free scopes test chosen other
expr-layer (BareExpr-F.Lambda params body line) free scopes =
    lambda-tells free scopes params body line
expr-layer (BareExpr-F.Attr container name) free scopes = attr-tells free scopes container name
expr-layer (BareExpr-F.Index container at) free scopes = index-tells free scopes container at
expr-layer (BareExpr-F.Slice container None None None) free scopes =
    slice-tells free scopes container None None None
expr-layer (BareExpr-F.Slice container None None (Some step)) free scopes =
    slice-tells free scopes container None None (Some step)
expr-layer (BareExpr-F.Slice container None (Some end) None) free scopes =
    slice-tells free scopes container None (Some end) None
expr-layer (BareExpr-F.Slice container None (Some end) (Some step)) free scopes =
    slice-tells free scopes container None (Some end) (Some step)
expr-layer (BareExpr-F.Slice container (Some begin) None None) free scopes =
    slice-tells free scopes container (Some begin) None None
expr-layer (BareExpr-F.Slice container (Some begin) None (Some step)) free scopes =
    slice-tells free scopes container (Some begin) None (Some step)
expr-layer (BareExpr-F.Slice container (Some begin) (Some end) None) free scopes =
    slice-tells free scopes container (Some begin) (Some end) None
expr-layer (BareExpr-F.Slice container (Some begin) (Some end) (Some step)) free scopes =
    slice-tells free scopes container (Some begin) (Some end) (Some step)
expr-layer (BareExpr-F.Call function args) free scopes = call-tells free scopes function args

no_target : Tells mentions_of_target [] (pure (target_tree.Many []))
no_target = done _ (is.fold_target-Many exprs_mention [])

target-layer :
    (layer : ExprParts ArgTells ClauseTells ExprTells ParamTells PairTells) (free : Names)
    (scopes : List Names)
    → Tells mentions_of_target []
    (target_made (meant-expr ArgTells ClauseTells ExprTells ParamTells PairTells layer) free scopes)
target-layer (BareExpr-F.Name name) free scopes =
    done _ (is.fold_target-Name exprs_mention (variable free scopes name.name))
target-layer (BareExpr-F.Index container at) free scopes =
    index_target-tells free scopes container at
target-layer (BareExpr-F.Bracketed target) free scopes = target.1.target free scopes
target-layer (BareExpr-F.Tuple targets) free scopes = many_target-tells free scopes targets
target-layer (BareExpr-F.List targets) free scopes = many_target-tells free scopes targets
target-layer _ free scopes = no_target

arg-layer :
    (layer : ArgParts ArgTells ClauseTells ExprTells ParamTells PairTells) (free : Names)
    (scopes : List Names)
    → Tells mentions_of_arg []
    (arg_made (meant-arg ArgTells ClauseTells ExprTells ParamTells PairTells layer) free scopes)
arg-layer (BareArg-F.Positional value) free scopes = then (value.1.expr free scopes)
    (λ made. done (arg_tree.Positional made) (is.fold_arg-Positional exprs_mention made))
arg-layer (BareArg-F.Named name value) free scopes = named_arg-tells free scopes name value
arg-layer (BareArg-F.Star value line) free scopes = then (value.1.expr free scopes)
    (λ made. done (arg_tree.Star made) (is.fold_arg-Star exprs_mention made))
arg-layer (BareArg-F.DoubleStar value line) free scopes = then (value.1.expr free scopes)
    (λ made. done (arg_tree.DoubleStar made) (is.fold_arg-DoubleStar exprs_mention made))

param-layer :
    (layer : ParamParts ArgTells ClauseTells ExprTells ParamTells PairTells) (free : Names)
    (scopes : List Names)
    → Tells mentions_of_param []
    (param_made (meant-param ArgTells ClauseTells ExprTells ParamTells PairTells layer) free scopes)
param-layer (BareParam-F.Required name) free scopes = done _ refl
param-layer (BareParam-F.Optional name default) free scopes =
    optional-tells free scopes name default
param-layer (BareParam-F.Bare line) free scopes = done _ refl
param-layer (BareParam-F.Rest name line) free scopes = done _ refl
param-layer (BareParam-F.Keywords name line) free scopes = done _ refl

clause-layer :
    (layer : ClauseParts ArgTells ClauseTells ExprTells ParamTells PairTells) (free : Names)
    (inner around : List Names)
    → Tells mentions_of_clause []
    (clause_made (meant-clause ArgTells ClauseTells ExprTells ParamTells PairTells layer) free inner
    around)
clause-layer (BareClause-F.For to over) free inner around =
    for_clause-tells free inner around to over
clause-layer (BareClause-F.If test) free inner around = then (test.1.expr free inner)
    (λ made. done (clause_tree.If made) (is.fold_clause-If exprs_mention made))

-- ---- each tree is such

arg-tells : (layer : ArgParts ArgTells ClauseTells ExprTells ParamTells PairTells)
    → ArgTells (arg_step (meant-arg ArgTells ClauseTells ExprTells ParamTells PairTells layer))
arg-tells layer = record { arg = arg-layer layer }

clause-tells : (layer : ClauseParts ArgTells ClauseTells ExprTells ParamTells PairTells)
    → ClauseTells
    (clause_step (meant-clause ArgTells ClauseTells ExprTells ParamTells PairTells layer))
clause-tells layer = record { clause = clause-layer layer }

layer-tells : (layer : ExprParts ArgTells ClauseTells ExprTells ParamTells PairTells)
    → ExprTells (expr_step (meant-expr ArgTells ClauseTells ExprTells ParamTells PairTells layer))
layer-tells layer = record { expr = expr-layer layer; target = target-layer layer }

one_param-tells : (layer : ParamParts ArgTells ClauseTells ExprTells ParamTells PairTells)
    → ParamTells
    (param_step (meant-param ArgTells ClauseTells ExprTells ParamTells PairTells layer))
one_param-tells layer = record { param = param-layer layer }

one_pair-tells : (layer : PairParts ArgTells ClauseTells ExprTells ParamTells PairTells)
    → PairTells (pair_step (meant-pair ArgTells ClauseTells ExprTells ParamTells PairTells layer))
one_pair-tells layer = record { pair = λ free scopes. pair-tells free scopes layer.key layer.value }

pub expr-tells : (tree : BareExpr) → ExprTells (meaning tree)
expr-tells = of-expr ArgTells ClauseTells ExprTells ParamTells PairTells arg-tells clause-tells
    layer-tells one_param-tells one_pair-tells

pub param-tells : (tree : BareParam) → ParamTells (param_meaning tree)
param-tells = of-param ArgTells ClauseTells ExprTells ParamTells PairTells arg-tells clause-tells
    layer-tells one_param-tells one_pair-tells
