-- The indexes in what is made of expressions.
use Rattle.std.proofs.Common.{ℕ, List, [], ◌∷◌, map, Option, Some, None, option_map, arith}
use Rattle.star_conditions.proofs.IndexesMade.{Good, bind-good, then, done, each-good, begin-good}
use Rattle.star_conditions.proofs.IndexesMade.{finish-good, none}
use Rattle.star_trees.proofs.Folds as is
use Rattle.star_conditions.proofs.MeaningInduction.{ArgParts, ClauseParts, ExprParts, ParamParts}
use Rattle.star_conditions.proofs.MeaningInduction.{PairParts, meant-arg, meant-clause, meant-expr}
use Rattle.star_conditions.proofs.MeaningInduction.{meant-pair, meant-param, of-expr, of-param}
use Rattle.star_conditions.proofs.Trees.{With, bare}
use Rattle.star_trees.specs.Indexes.{greatest, number_or_zero, functions_of_arg}
use Rattle.star_trees.specs.Indexes.{functions_of_clause, functions_of_expr, functions_of_pair}
use Rattle.star_trees.specs.Indexes.{functions_of_param, functions_of_target, expr_indexes}
use Rattle.star_trees.specs.declared.trees.Arg as arg_tree
use Rattle.star_trees.specs.declared.trees.BinOp.{BinOp}
use Rattle.star_trees.specs.declared.trees.Clause as clause_tree
use Rattle.star_trees.specs.declared.trees.Expr as e
use Rattle.star_trees.specs.declared.trees.Expr.{Expr}
use Rattle.star_trees.specs.declared.trees.ExprPair.{roll-ExprPair}
use Rattle.star_trees.specs.declared.trees.Target as target_tree
use Rattle.star_trees.specs.declared.trees.UnOp.{UnOp}
use Rattle.star_trees.specs.declared.files.Param.TheVariants as param_tree
use Rattle.star_grammar.specs.declared.bare_expressions.BareArg.TheOpen.{BareArg-F, BareClause-F}
use Rattle.star_grammar.specs.declared.bare_expressions.BareArg.TheOpen.{BareExpr-F, BareParam-F}
use Rattle.star_grammar.specs.declared.bare_expressions.BareExpr.{BareExpr}
use Rattle.star_grammar.specs.declared.bare_expressions.BareParam.{BareParam}
use Rattle.star_trees.specs.Variables.{Names, variables}
use Rattle.star_scopes.specs.ExprMaking.{arg_made, clause_made, expr_made, param_made, target_made}
use Rattle.star_scopes.specs.ExprMaking.{items_made, pairs_made, args_made, params_made}
use Rattle.star_scopes.specs.ExprMaking.{targets_made, maybe_made, list_made, tuple_made, dict_made}
use Rattle.star_scopes.specs.ExprMaking.{more_clauses_made, some_clauses_made, clauses_made}
use Rattle.star_scopes.specs.ExprMaking.{list_comp_made, dict_comp_made, unary_made, binary_made}
use Rattle.star_scopes.specs.ExprMaking.{cond_made, lambda_made, lambda_code, attr_made, index_made}
use Rattle.star_scopes.specs.ExprMaking.{slice_made, call_made, index_target, many_target}
use Rattle.star_scopes.specs.ExprMaking.{named_arg_made, optional_made, pair_made, for_clause_made}
use Rattle.star_scopes.specs.ExprMeaning.{arg_meaning, arg_step, clause_meaning, clause_step}
use Rattle.star_scopes.specs.ExprMeaning.{expr_step, meaning, pair_meaning, pair_step}
use Rattle.star_scopes.specs.ExprMeaning.{param_meaning, param_step}
use Rattle.star_scopes.specs.Making.{pure, finish}
use Rattle.star_scopes.specs.Meanings.{ArgMeaning, ClauseMeaning, ExprMeaning, PairMeaning}
use Rattle.star_scopes.specs.Meanings.{ParamMeaning}
use Rattle.star_scopes.specs.Scopes.{variable}

-- ---- meanings whose makings are always fine

pub record ExprFine (m : ExprMeaning) : Type 0 where
  pub expr : (free : Names) (scopes : List Names)
      → Good 0 0 functions_of_expr none (m.expr free scopes)
  pub target : (free : Names) (scopes : List Names)
      → Good 0 0 functions_of_target none (m.target free scopes)

pub record ArgFine (m : ArgMeaning) : Type 0 where
  pub arg : (free : Names) (scopes : List Names)
      → Good 0 0 functions_of_arg none (m.arg free scopes)

pub record ClauseFine (m : ClauseMeaning) : Type 0 where
  pub clause : (free : Names) (inner around : List Names)
      → Good 0 0 functions_of_clause none (m.clause free inner around)

pub record ParamFine (m : ParamMeaning) : Type 0 where
  pub param : (free : Names) (scopes : List Names)
      → Good 0 0 functions_of_param none (m.param free scopes)

pub record PairFine (m : PairMeaning) : Type 0 where
  pub pair : (free : Names) (scopes : List Names)
      → Good 0 0 functions_of_pair none (m.pair free scopes)

abbrev pub FineExpr : Type 0
FineExpr = With (λ tree. ExprFine (meaning tree))

abbrev pub FineArg : Type 0
FineArg = With (λ tree. ArgFine (arg_meaning tree))

abbrev pub FineClause : Type 0
FineClause = With (λ tree. ClauseFine (clause_meaning tree))

abbrev pub FineParam : Type 0
FineParam = With (λ tree. ParamFine (param_meaning tree))

abbrev pub FinePair : Type 0
FinePair = With (λ tree. PairFine (pair_meaning tree))

-- the greatest of each one's
abbrev pub of_each : {A : Type 0} → (A → ℕ) → List A → ℕ
of_each f made = greatest (map f made)

module _ (free : Names) (scopes : List Names) where
  pub items-fine : (items : List FineExpr)
      → Good 0 0 (of_each functions_of_expr) (of_each none)
      (items_made free scopes (map meaning (map bare items)))
  unfolding items_made
  items-fine = each-good functions_of_expr none (λ item. item.expr free scopes) meaning
      (λ tree fine. fine.expr free scopes)

  pub pairs-fine : (pairs : List FinePair)
      → Good 0 0 (of_each functions_of_pair) (of_each none)
      (pairs_made free scopes (map pair_meaning (map bare pairs)))
  unfolding pairs_made
  pairs-fine = each-good functions_of_pair none (λ pair. pair.pair free scopes) pair_meaning
      (λ tree fine. fine.pair free scopes)

  pub args-fine : (args : List FineArg)
      → Good 0 0 (of_each functions_of_arg) (of_each none)
      (args_made free scopes (map arg_meaning (map bare args)))
  unfolding args_made
  args-fine = each-good functions_of_arg none (λ arg. arg.arg free scopes) arg_meaning
      (λ tree fine. fine.arg free scopes)

  pub params-fine : (params : List FineParam)
      → Good 0 0 (of_each functions_of_param) (of_each none)
      (params_made free scopes (map param_meaning (map bare params)))
  unfolding params_made
  params-fine = each-good functions_of_param none (λ param. param.param free scopes) param_meaning
      (λ tree fine. fine.param free scopes)

  pub targets-fine : (targets : List FineExpr)
      → Good 0 0 (of_each functions_of_target) (of_each none)
      (targets_made free scopes (map meaning (map bare targets)))
  unfolding targets_made
  targets-fine = each-good functions_of_target none (λ target. target.target free scopes) meaning
      (λ tree fine. fine.target free scopes)

  pub maybe-fine : (bound : Option FineExpr)
      → Good 0 0 (λ made. number_or_zero (option_map functions_of_expr made)) none
      (maybe_made free scopes (option_map meaning (option_map bare bound)))
  unfolding maybe_made
  maybe-fine None = done 0 0 None (omega arith)
  maybe-fine (Some bound) = then (bound.1.expr free scopes)
      (λ made i j _ _ within _. done i j (Some made) within)

  pub list-fine : (items : List FineExpr)
      → Good 0 0 functions_of_expr none (list_made free scopes (map meaning (map bare items)))
  unfolding list_made
  list-fine items = then (items-fine items)
      (λ made i j _ _ within _. done i j (e.List made)
      (omega (arith, is.fold_expr-List expr_indexes made, within)))

  pub tuple-fine : (items : List FineExpr)
      → Good 0 0 functions_of_expr none (tuple_made free scopes (map meaning (map bare items)))
  unfolding tuple_made
  tuple-fine items = then (items-fine items)
      (λ made i j _ _ within _. done i j (e.Tuple made)
      (omega (arith, is.fold_expr-Tuple expr_indexes made, within)))

  pub dict-fine : (pairs : List FinePair)
      → Good 0 0 functions_of_expr none (dict_made free scopes (map pair_meaning (map bare pairs)))
  unfolding dict_made
  dict-fine pairs = then (pairs-fine pairs)
      (λ made i j _ _ within _. done i j (e.Dict made)
      (omega (arith, is.fold_expr-Dict expr_indexes made, within)))

  pub more_clauses-fine : (inner : List Names) (clauses : List FineClause)
      → Good 0 0 (of_each functions_of_clause) (of_each none)
      (more_clauses_made free scopes inner (map clause_meaning (map bare clauses)))
  unfolding more_clauses_made
  more_clauses-fine inner = each-good functions_of_clause none
      (λ clause. clause.clause free inner inner) clause_meaning
      (λ tree fine. fine.clause free inner inner)

  pub some_clauses-fine : (inner : List Names) (first : FineClause) (more : List FineClause)
      → Good 0 0 (of_each functions_of_clause) none
      (some_clauses_made free scopes inner (clause_meaning first.0)
      (map clause_meaning (map bare more)))
  unfolding some_clauses_made
  some_clauses-fine inner first more =
      then (first.1.clause free inner scopes) (λ made i j _ _ within _.
      then (more_clauses-fine inner more) (λ others k l up _ all _.
      done k l (made ∷ others) (omega arith)))

  pub clauses-fine : (inner : List Names) (clauses : List FineClause)
      → Good 0 0 (of_each functions_of_clause) none
      (clauses_made free scopes inner (map clause_meaning (map bare clauses)))
  unfolding clauses_made
  clauses-fine inner [] = done 0 0 [] (omega arith)
  clauses-fine inner (first ∷ more) = some_clauses-fine inner first more

  pub list_comp-fine : (item : FineExpr) (clauses : List FineClause)
      → Good 0 0 functions_of_expr none
      (list_comp_made free scopes (meaning item.0) (map clause_meaning (map bare clauses)))
  unfolding list_comp_made
  list_comp-fine item clauses =
      let inner = variables
      (map (λ clause. clause.bound) (map clause_meaning (map bare clauses))) ∷ scopes in
      then (item.1.expr free inner) (λ made i j _ _ within _.
      then (clauses-fine inner clauses) (λ others k l up _ all _.
      done k l (e.ListComp made others)
      (omega (arith, is.fold_expr-ListComp expr_indexes made others))))

  pub dict_comp-fine : (key value : FineExpr) (clauses : List FineClause)
      → Good 0 0 functions_of_expr none
      (dict_comp_made free scopes (meaning key.0) (meaning value.0)
      (map clause_meaning (map bare clauses)))
  unfolding dict_comp_made
  dict_comp-fine key value clauses =
      let inner = variables
      (map (λ clause. clause.bound) (map clause_meaning (map bare clauses))) ∷ scopes in
      then (key.1.expr free inner) (λ made_key i j _ _ first _.
      then (value.1.expr free inner) (λ made k l up _ second _.
      then (clauses-fine inner clauses) (λ others p q further _ all _.
      done p q (e.DictComp made_key made others)
      (omega (arith, is.fold_expr-DictComp expr_indexes made_key made others)))))

  pub unary-fine : (op : UnOp) (operand : FineExpr)
      → Good 0 0 functions_of_expr none (unary_made free scopes op (meaning operand.0))
  unfolding unary_made
  unary-fine op operand = then (operand.1.expr free scopes)
      (λ made i j _ _ within _. done i j (e.Unary op made)
      (omega (arith, is.fold_expr-Unary expr_indexes op made)))

  pub binary-fine : (op : BinOp) (left right : FineExpr)
      → Good 0 0 functions_of_expr none
      (binary_made free scopes op (meaning left.0) (meaning right.0))
  unfolding binary_made
  binary-fine op left right =
      then (left.1.expr free scopes) (λ made i j _ _ within _.
      then (right.1.expr free scopes) (λ other k l up _ also _.
      done k l (e.Binary op made other)
      (omega (arith, is.fold_expr-Binary expr_indexes op made other))))

  pub cond-fine : (test chosen other : FineExpr)
      → Good 0 0 functions_of_expr none
      (cond_made free scopes (meaning test.0) (meaning chosen.0) (meaning other.0))
  unfolding cond_made
  cond-fine test chosen other =
      then (chosen.1.expr free scopes) (λ made_chosen i j _ _ first _.
      then (test.1.expr free scopes) (λ made_test k l up _ second _.
      then (other.1.expr free scopes) (λ made_other p q further _ third _.
      done p q (e.Cond made_test made_chosen made_other)
      (omega (arith, is.fold_expr-Cond expr_indexes made_test made_chosen made_other)))))

  pub lambda-fine : (params : List FineParam) (body : FineExpr) (line : ℕ)
      → Good 0 0 functions_of_expr none
      (lambda_made free scopes (map param_meaning (map bare params)) (meaning body.0) line)
  unfolding lambda_made
  lambda-fine params body line =
      let inner = variables
      (map (λ param. param.bound) (map param_meaning (map bare params))) ∷ scopes in
      then (begin-good 0 0) (λ place i j _ _ there _.
      then (params-fine params) (λ made_params k l up _ first _.
      then (body.1.expr free inner) (λ made_body p q further _ second _.
      bind-good p q none none functions_of_expr none
      (finish place (lambda_code made_params made_body line)) (λ _. pure (e.Lambda place))
      (finish-good p q place (lambda_code made_params made_body line) (omega arith)
      (omega arith)) (λ _ g h more _ _ _.
      done g h (e.Lambda place) (omega (arith, is.fold_expr-Lambda expr_indexes place))))))

  pub attr-fine : (container : FineExpr) (name : List ℕ)
      → Good 0 0 functions_of_expr none (attr_made free scopes (meaning container.0) name)
  unfolding attr_made
  attr-fine container name = then (container.1.expr free scopes)
      (λ made i j _ _ within _. done i j (e.Attr made name)
      (omega (arith, is.fold_expr-Attr expr_indexes made name)))

  pub index-fine : (container at : FineExpr)
      → Good 0 0 functions_of_expr none
      (index_made free scopes (meaning container.0) (meaning at.0))
  unfolding index_made
  index-fine container at =
      then (container.1.expr free scopes) (λ made i j _ _ within _.
      then (at.1.expr free scopes) (λ made_at k l up _ also _.
      done k l (e.Index made made_at)
      (omega (arith, is.fold_expr-Index expr_indexes made made_at))))

  pub slice-fine : (container : FineExpr) (begin end step : Option FineExpr)
      → Good 0 0 functions_of_expr none
      (slice_made free scopes (meaning container.0) (option_map meaning (option_map bare begin))
      (option_map meaning (option_map bare end)) (option_map meaning (option_map bare step)))
  unfolding slice_made
  slice-fine container begin end step =
      then (container.1.expr free scopes) (λ made i j _ _ within _.
      then (maybe-fine begin) (λ made_begin k l up _ first _.
      then (maybe-fine end) (λ made_end p q further _ second _.
      then (maybe-fine step) (λ made_step g h more _ third _.
      done g h (e.Slice made made_begin made_end made_step)
      (omega (arith, is.fold_expr-Slice expr_indexes made made_begin made_end made_step))))))

  pub call-fine : (function : FineExpr) (args : List FineArg)
      → Good 0 0 functions_of_expr none
      (call_made free scopes (meaning function.0) (map arg_meaning (map bare args)))
  unfolding call_made
  call-fine function args =
      then (function.1.expr free scopes) (λ made i j _ _ within _.
      then (args-fine args) (λ made_args k l up _ all _.
      done k l (e.Call made made_args)
      (omega (arith, is.fold_expr-Call expr_indexes made made_args))))

  pub index_target-fine : (container at : FineExpr)
      → Good 0 0 functions_of_target none
      (index_target free scopes (meaning container.0) (meaning at.0))
  unfolding index_target
  index_target-fine container at =
      then (container.1.expr free scopes) (λ made i j _ _ within _.
      then (at.1.expr free scopes) (λ made_at k l up _ also _.
      done k l (target_tree.Index made made_at)
      (omega (arith, is.fold_target-Index expr_indexes made made_at))))

  pub many_target-fine : (targets : List FineExpr)
      → Good 0 0 functions_of_target none (many_target free scopes (map meaning (map bare targets)))
  unfolding many_target
  many_target-fine targets = then (targets-fine targets)
      (λ made i j _ _ within _. done i j (target_tree.Many made)
      (omega (arith, is.fold_target-Many expr_indexes made, within)))

  pub named_arg-fine : (name : List ℕ) (value : FineExpr)
      → Good 0 0 functions_of_arg none (named_arg_made free scopes name (meaning value.0))
  unfolding named_arg_made
  named_arg-fine name value = then (value.1.expr free scopes)
      (λ made i j _ _ within _. done i j (arg_tree.Named name made)
      (omega (arith, is.fold_arg-Named expr_indexes name made)))

  pub optional-fine : (name : List ℕ) (default : FineExpr)
      → Good 0 0 functions_of_param none (optional_made free scopes name (meaning default.0))
  unfolding optional_made
  optional-fine name default = then (default.1.expr free scopes)
      (λ made i j _ _ within _. done i j (param_tree.Optional name made) within)

  pub pair-fine : (key value : FineExpr)
      → Good 0 0 functions_of_pair none (pair_made free scopes (meaning key.0) (meaning value.0))
  unfolding pair_made
  pair-fine key value =
      then (key.1.expr free scopes) (λ made_key i j _ _ within _.
      then (value.1.expr free scopes) (λ made k l up _ also _.
      done k l (roll-ExprPair (record { key = made_key; value = made }))
      (omega (arith, is.fold_pair-roll expr_indexes made_key made))))

pub for_clause-fine : (free : Names) (inner around : List Names) (to over : FineExpr)
    → Good 0 0 functions_of_clause none
    (for_clause_made free inner around (meaning to.0) (meaning over.0))
unfolding for_clause_made
for_clause-fine free inner around to over =
    then (to.1.target free inner) (λ made_to i j _ _ within _.
    then (over.1.expr free around) (λ made k l up _ also _.
    done k l (clause_tree.For made_to made)
    (omega (arith, is.fold_clause-For expr_indexes made_to made))))

-- ---- a construct of fine parts is fine

expr-layer : (layer : ExprParts ArgFine ClauseFine ExprFine ParamFine PairFine) (free : Names)
    (scopes : List Names)
    → Good 0 0 functions_of_expr none
    (expr_made (meant-expr ArgFine ClauseFine ExprFine ParamFine PairFine layer) free scopes)
expr-layer (BareExpr-F.Name name) free scopes = done 0 0 _
    (omega (arith, is.fold_expr-Name expr_indexes (variable free scopes name.name)))
expr-layer (BareExpr-F.Int value) free scopes = done 0 0 _
    (omega (arith, is.fold_expr-Int expr_indexes value))
expr-layer (BareExpr-F.Text text) free scopes = done 0 0 _
    (omega (arith, is.fold_expr-Text expr_indexes text))
expr-layer (BareExpr-F.List items) free scopes = list-fine free scopes items
expr-layer (BareExpr-F.Tuple items) free scopes = tuple-fine free scopes items
expr-layer (BareExpr-F.Dict pairs) free scopes = dict-fine free scopes pairs
expr-layer (BareExpr-F.ListComp item clauses) free scopes = list_comp-fine free scopes item clauses
expr-layer (BareExpr-F.DictComp key value clauses) free scopes = dict_comp-fine free scopes key
    value clauses
expr-layer (BareExpr-F.Bracketed inside) free scopes = inside.1.expr free scopes
expr-layer (BareExpr-F.Unary op operand) free scopes = unary-fine free scopes op operand
expr-layer (BareExpr-F.Binary op left right) free scopes = binary-fine free scopes op left right
expr-layer (BareExpr-F.Cond test chosen other) free scopes = cond-fine free scopes test chosen other
expr-layer (BareExpr-F.Lambda params body line) free scopes = lambda-fine free scopes params body
    line
expr-layer (BareExpr-F.Attr container name) free scopes = attr-fine free scopes container name
expr-layer (BareExpr-F.Index container at) free scopes = index-fine free scopes container at
expr-layer (BareExpr-F.Slice container None None None) free scopes = slice-fine free scopes
    container None None None
expr-layer (BareExpr-F.Slice container None None (Some step)) free scopes = slice-fine free scopes
    container None None (Some step)
expr-layer (BareExpr-F.Slice container None (Some end) None) free scopes = slice-fine free scopes
    container None (Some end) None
expr-layer (BareExpr-F.Slice container None (Some end) (Some step)) free scopes = slice-fine free
    scopes container None (Some end) (Some step)
expr-layer (BareExpr-F.Slice container (Some begin) None None) free scopes = slice-fine free scopes
    container (Some begin) None None
expr-layer (BareExpr-F.Slice container (Some begin) None (Some step)) free scopes = slice-fine free
    scopes container (Some begin) None (Some step)
expr-layer (BareExpr-F.Slice container (Some begin) (Some end) None) free scopes = slice-fine free
    scopes container (Some begin) (Some end) None
expr-layer (BareExpr-F.Slice container (Some begin) (Some end) (Some step)) free scopes = slice-fine
    free scopes container (Some begin) (Some end) (Some step)
expr-layer (BareExpr-F.Call function args) free scopes = call-fine free scopes function args

no_target : Good 0 0 functions_of_target none (pure (target_tree.Many []))
no_target = done 0 0 _ (omega (arith, is.fold_target-Many expr_indexes []))

target-layer : (layer : ExprParts ArgFine ClauseFine ExprFine ParamFine PairFine) (free : Names)
    (scopes : List Names)
    → Good 0 0 functions_of_target none
    (target_made (meant-expr ArgFine ClauseFine ExprFine ParamFine PairFine layer) free scopes)
target-layer (BareExpr-F.Name name) free scopes = done 0 0 _
    (omega (arith, is.fold_target-Name expr_indexes (variable free scopes name.name)))
target-layer (BareExpr-F.Index container at) free scopes = index_target-fine free scopes container
    at
target-layer (BareExpr-F.Bracketed target) free scopes = target.1.target free scopes
target-layer (BareExpr-F.Tuple targets) free scopes = many_target-fine free scopes targets
target-layer (BareExpr-F.List targets) free scopes = many_target-fine free scopes targets
target-layer _ free scopes = no_target

arg-layer : (layer : ArgParts ArgFine ClauseFine ExprFine ParamFine PairFine) (free : Names)
    (scopes : List Names)
    → Good 0 0 functions_of_arg none
    (arg_made (meant-arg ArgFine ClauseFine ExprFine ParamFine PairFine layer) free scopes)
arg-layer (BareArg-F.Positional value) free scopes = then (value.1.expr free scopes)
    (λ made i j _ _ within _. done i j (arg_tree.Positional made)
    (omega (arith, is.fold_arg-Positional expr_indexes made)))
arg-layer (BareArg-F.Named name value) free scopes = named_arg-fine free scopes name value
arg-layer (BareArg-F.Star value line) free scopes = then (value.1.expr free scopes)
    (λ made i j _ _ within _. done i j (arg_tree.Star made)
    (omega (arith, is.fold_arg-Star expr_indexes made)))
arg-layer (BareArg-F.DoubleStar value line) free scopes = then (value.1.expr free scopes)
    (λ made i j _ _ within _. done i j (arg_tree.DoubleStar made)
    (omega (arith, is.fold_arg-DoubleStar expr_indexes made)))

param-layer : (layer : ParamParts ArgFine ClauseFine ExprFine ParamFine PairFine) (free : Names)
    (scopes : List Names)
    → Good 0 0 functions_of_param none
    (param_made (meant-param ArgFine ClauseFine ExprFine ParamFine PairFine layer) free scopes)
param-layer (BareParam-F.Required name) free scopes = done 0 0 _ (omega arith)
param-layer (BareParam-F.Optional name default) free scopes = optional-fine free scopes name default
param-layer (BareParam-F.Bare line) free scopes = done 0 0 _ (omega arith)
param-layer (BareParam-F.Rest name line) free scopes = done 0 0 _ (omega arith)
param-layer (BareParam-F.Keywords name line) free scopes = done 0 0 _ (omega arith)

clause-layer : (layer : ClauseParts ArgFine ClauseFine ExprFine ParamFine PairFine) (free : Names)
    (inner around : List Names)
    → Good 0 0 functions_of_clause none
    (clause_made (meant-clause ArgFine ClauseFine ExprFine ParamFine PairFine layer) free inner
    around)
clause-layer (BareClause-F.For to over) free inner around = for_clause-fine free inner around to
    over
clause-layer (BareClause-F.If test) free inner around = then (test.1.expr free inner)
    (λ made i j _ _ within _. done i j (clause_tree.If made)
    (omega (arith, is.fold_clause-If expr_indexes made)))

-- ---- each tree is fine

arg-fine : (layer : ArgParts ArgFine ClauseFine ExprFine ParamFine PairFine)
    → ArgFine (arg_step (meant-arg ArgFine ClauseFine ExprFine ParamFine PairFine layer))
arg-fine layer = record { arg = arg-layer layer }

clause-fine : (layer : ClauseParts ArgFine ClauseFine ExprFine ParamFine PairFine)
    → ClauseFine (clause_step (meant-clause ArgFine ClauseFine ExprFine ParamFine PairFine layer))
clause-fine layer = record { clause = clause-layer layer }

layer-fine : (layer : ExprParts ArgFine ClauseFine ExprFine ParamFine PairFine)
    → ExprFine (expr_step (meant-expr ArgFine ClauseFine ExprFine ParamFine PairFine layer))
layer-fine layer = record { expr = expr-layer layer; target = target-layer layer }

one_param-fine : (layer : ParamParts ArgFine ClauseFine ExprFine ParamFine PairFine)
    → ParamFine (param_step (meant-param ArgFine ClauseFine ExprFine ParamFine PairFine layer))
one_param-fine layer = record { param = param-layer layer }

one_pair-fine : (layer : PairParts ArgFine ClauseFine ExprFine ParamFine PairFine)
    → PairFine (pair_step (meant-pair ArgFine ClauseFine ExprFine ParamFine PairFine layer))
one_pair-fine layer = record { pair = λ free scopes. pair-fine free scopes layer.key layer.value }

pub expr-fine : (tree : BareExpr) → ExprFine (meaning tree)
expr-fine = of-expr ArgFine ClauseFine ExprFine ParamFine PairFine arg-fine clause-fine layer-fine
    one_param-fine one_pair-fine

pub param-fine : (tree : BareParam) → ParamFine (param_meaning tree)
param-fine = of-param ArgFine ClauseFine ExprFine ParamFine PairFine arg-fine clause-fine layer-fine
    one_param-fine one_pair-fine
