-- What is made of an expression that the grammar spells has no refused form, nor has any function
-- that is made beside it.
use Rattle.std.proofs.Common.{◌≡◌, ℕ, ℤ, Bool, true, false, ◌&&◌, List, [], ◌∷◌, map, All, IfSome}
use Rattle.std.proofs.Common.{Option, Some, None, option_map, ap, refl, subst, sym, ◌∙◌}
use Rattle.std.proofs.lemmas.Bool.{and_from, false≢true}
use Rattle.std.proofs.lemmas.List.Elements.{All-head, All-tail}
use Rattle.star_conditions.proofs.BareForms as bare_form
use Rattle.star_conditions.proofs.ExpressionNesting.{pair_meaning-roll}
use Rattle.star_trees.proofs.Folds as is
use Rattle.star_trees.proofs.Assignable as assignable
use Rattle.star_conditions.proofs.FormsMade.{ParamMade, ParamsRight, all_of-zipped, arg_as}
use Rattle.star_conditions.proofs.FormsMade.{arg_formed, args-made, clause_as, clause_formed}
use Rattle.star_conditions.proofs.FormsMade.{clauses-made, formed, looped, map-zipped, params-made}
use Rattle.star_conditions.proofs.FormsMade.{some_and_all-zipped, targets-each}
use Rattle.star_conditions.proofs.Made.{Makes, pure-makes, bind-makes, makes-also, each-makes}
use Rattle.star_conditions.proofs.Made.{function-makes}
use Rattle.star_conditions.proofs.Conditions.{ForFirst}
use Rattle.star_trees.specs.Orders.{ArgForm, ClauseForm, are_clauses, form_of_arg, form_of_clause}
use Rattle.star_trees.specs.Orders.{is_assignable, maybe_right, right_code, right_expr, right_pair}
use Rattle.star_trees.specs.Orders.{right_param, right_target, expr_forms}
use Rattle.star_trees.specs.Orders as form
use Rattle.star_trees.specs.declared.files.FnCode.{FnCode}
use Rattle.star_trees.specs.declared.files.Param.{Param}
use Rattle.star_trees.specs.declared.files.Param.TheVariants as param_tree
use Rattle.star_trees.specs.declared.trees.Arg.{Arg}
use Rattle.star_trees.specs.declared.trees.Arg as arg_tree
use Rattle.star_trees.specs.declared.trees.BinOp.{BinOp}
use Rattle.star_trees.specs.declared.trees.Clause.{Clause}
use Rattle.star_trees.specs.declared.trees.Clause as clause_tree
use Rattle.star_trees.specs.declared.trees.Expr as e
use Rattle.star_trees.specs.declared.trees.Expr.{Expr}
use Rattle.star_trees.specs.declared.trees.ExprPair.{roll-ExprPair}
use Rattle.star_trees.specs.declared.trees.Target as target_tree
use Rattle.star_trees.specs.declared.trees.UnOp.{UnOp}
use Rattle.star_grammar.specs.declared.bare_expressions.BareArg as bare_arg
use Rattle.star_grammar.specs.declared.bare_expressions.BareArg.{BareArg}
use Rattle.star_grammar.specs.declared.bare_expressions.BareClause as bare_clause
use Rattle.star_grammar.specs.declared.bare_expressions.BareClause.{BareClause}
use Rattle.star_grammar.specs.declared.bare_expressions.BareExpr as bare
use Rattle.star_grammar.specs.declared.bare_expressions.BareExpr.{BareExpr}
use Rattle.star_grammar.specs.declared.bare_expressions.BareName.{BareName}
use Rattle.star_grammar.specs.declared.bare_expressions.BarePair.{BarePair, roll-BarePair}
use Rattle.star_grammar.specs.declared.bare_expressions.BareParam as bare_param
use Rattle.star_grammar.specs.declared.bare_expressions.BareParam.{BareParam}
use Rattle.star_grammar.specs.Orders as grammar
use Rattle.star_trees.specs.Lists.{all_of, some_and_all}
use Rattle.star_grammar.specs.Orders.{is_target}
use Rattle.star_trees.specs.Variables.{Names, variables}
use Rattle.star_scopes.specs.ExprMaking.{items_made, pairs_made, args_made, params_made}
use Rattle.star_scopes.specs.ExprMaking.{targets_made, maybe_made, list_made, tuple_made, dict_made}
use Rattle.star_scopes.specs.ExprMaking.{more_clauses_made, some_clauses_made, clauses_made}
use Rattle.star_scopes.specs.ExprMaking.{list_comp_made, dict_comp_made, unary_made, binary_made}
use Rattle.star_scopes.specs.ExprMaking.{cond_made, lambda_made, lambda_code, attr_made, index_made}
use Rattle.star_scopes.specs.ExprMaking.{slice_made, call_made, index_target, many_target}
use Rattle.star_scopes.specs.ExprMaking.{named_arg_made, optional_made, pair_made, for_clause_made}
use Rattle.star_scopes.proofs.Layers as layer
use Rattle.star_scopes.specs.ExprMeaning.{arg_meaning, clause_meaning, meaning, pair_meaning}
use Rattle.star_scopes.specs.ExprMeaning.{param_meaning}
use Rattle.star_scopes.specs.Making.{Making, ◌>>=◌, pure}
use Rattle.star_scopes.specs.Meanings.{ArgMeaning, ClauseMeaning, ExprMeaning, PairMeaning}
use Rattle.star_scopes.specs.Meanings.{ParamMeaning}
use Rattle.star_scopes.specs.Scopes.{variable}

-- the code of a function with no refused form
abbrev pub RightCode : FnCode → Type 0
RightCode code = right_code code ≡ true

-- a making of what is right
abbrev pub MakesRight : {A : Type 0} → (A → Bool) → Making A → Type 0
MakesRight right making = Makes RightCode (λ made. right made ≡ true) making

pub right : {A : Type 0} (test : A → Bool) (a : A) → test a ≡ true → MakesRight test (pure a)
right test a so = pure-makes RightCode a so

-- ---- meanings that make what is right

pub record ExprForm (tree : BareExpr) (m : ExprMeaning) : Type 0 where
  pub expr : (free : Names) (scopes : List Names) → MakesRight right_expr (m.expr free scopes)
  pub target : is_target tree ≡ true
      → (free : Names) (scopes : List Names)
      → MakesRight right_target (m.target free scopes)
  pub place : grammar.is_place tree ≡ true
      → (free : Names) (scopes : List Names)
      → MakesRight is_assignable (m.expr free scopes)

pub record ArgFormed (tree : BareArg) (m : ArgMeaning) : Type 0 where
  pub arg : (free : Names) (scopes : List Names)
      → Makes RightCode (λ made. form_of_arg made ≡ arg_as tree) (m.arg free scopes)

pub record ClauseFormed (tree : BareClause) (m : ClauseMeaning) : Type 0 where
  pub clause : (free : Names) (inner around : List Names)
      → Makes RightCode (λ made. form_of_clause made ≡ clause_as tree) (m.clause free inner around)

pub record ParamFormed (tree : BareParam) (m : ParamMeaning) : Type 0 where
  pub param : (free : Names) (scopes : List Names)
      → Makes RightCode (ParamMade tree) (m.param free scopes)

pub record PairFormed (m : PairMeaning) : Type 0 where
  pub pair : (free : Names) (scopes : List Names) → MakesRight right_pair (m.pair free scopes)

abbrev pub ExprRight : BareExpr → Type 0
ExprRight tree = ExprForm tree (meaning tree)

abbrev pub ArgRight : BareArg → Type 0
ArgRight tree = ArgFormed tree (arg_meaning tree)

abbrev pub ClauseRight : BareClause → Type 0
ClauseRight tree = ClauseFormed tree (clause_meaning tree)

abbrev pub ParamRight : BareParam → Type 0
ParamRight tree = ParamFormed tree (param_meaning tree)

abbrev pub PairRight : BarePair → Type 0
PairRight tree = PairFormed (pair_meaning tree)

-- ---- lists of parts

-- each of some is right
abbrev pub each_right : {A : Type 0} → (A → Bool) → List A → Bool
each_right test made = all_of (map test made)

module _ (free : Names) (scopes : List Names) where
  items-right : (items : List BareExpr)
      → All ExprRight items
      → MakesRight (each_right right_expr) (items_made free scopes (map meaning items))
  unfolding items_made
  items-right items all = makes-also RightCode
      (λ made zipped. all_of-zipped right_expr items made zipped)
      (each-makes RightCode ExprRight (λ tree made. right_expr made ≡ true)
      (λ item. item.expr free scopes) meaning (λ tree so. so.expr free scopes) items all)

  pairs-right : (pairs : List BarePair)
      → All PairRight pairs
      → MakesRight (each_right right_pair) (pairs_made free scopes (map pair_meaning pairs))
  unfolding pairs_made
  pairs-right pairs all = makes-also RightCode
      (λ made zipped. all_of-zipped right_pair pairs made zipped)
      (each-makes RightCode PairRight (λ tree made. right_pair made ≡ true)
      (λ pair. pair.pair free scopes) pair_meaning (λ tree so. so.pair free scopes) pairs all)

  args-right : (args : List BareArg)
      → grammar.are_args args ≡ true
      → All ArgRight args
      → MakesRight (λ made. form.are_args (map form_of_arg made) && all_of (map (λ (arg : ArgForm).
      arg.right) (map form_of_arg made))) (args_made free scopes (map arg_meaning args))
  unfolding args_made
  args-right args are all = makes-also RightCode
      (λ made zipped. args-made (map form_of_arg made) args
      (map-zipped form_of_arg arg_as args made zipped) are)
      (each-makes RightCode ArgRight (λ tree made. form_of_arg made ≡ arg_as tree)
      (λ arg. arg.arg free scopes) arg_meaning (λ tree so. so.arg free scopes) args all)

  pub params-right : (params : List BareParam)
      → grammar.are_params params ≡ true
      → All ParamRight params
      → Makes RightCode ParamsRight (params_made free scopes (map param_meaning params))
  unfolding params_made
  params-right params are all = makes-also RightCode
      (λ made zipped. params-made params made are zipped)
      (each-makes RightCode ParamRight ParamMade (λ param. param.param free scopes) param_meaning
      (λ tree so. so.param free scopes) params all)

  targets-right : (targets : List BareExpr)
      → some_and_all (map is_target targets) ≡ true
      → All ExprRight targets
      → MakesRight (λ made. some_and_all (map right_target made))
      (targets_made free scopes (map meaning targets))
  unfolding targets_made
  targets-right targets are all = makes-also RightCode
      (λ made zipped. some_and_all-zipped right_target is_target targets made are zipped)
      (each-makes RightCode (λ tree. ExprRight tree × (is_target tree ≡ true))
      (λ tree made. right_target made ≡ true) (λ target. target.target free scopes) meaning
      (λ tree so. so.0.target so.1 free scopes) targets (targets-each ExprRight targets all are))

  maybe-right : (bound : Option BareExpr)
      → IfSome bound ExprRight
      → MakesRight (λ made. maybe_right (option_map right_expr made))
      (maybe_made free scopes (option_map meaning bound))
  unfolding maybe_made
  maybe-right None so = right _ None refl
  maybe-right (Some bound) so = bind-makes RightCode (so.expr free scopes)
      (λ made one. right _ (Some made) one)

  more_clauses-right : (inner : List Names) (clauses : List BareClause)
      → All ClauseRight clauses
      → Makes RightCode (λ made. map form_of_clause made ≡ map clause_as clauses)
      (more_clauses_made free scopes inner (map clause_meaning clauses))
  unfolding more_clauses_made
  more_clauses-right inner clauses all = makes-also RightCode
      (λ made zipped. map-zipped form_of_clause clause_as clauses made zipped)
      (each-makes RightCode ClauseRight (λ tree made. form_of_clause made ≡ clause_as tree)
      (λ clause. clause.clause free inner inner) clause_meaning
      (λ tree so. so.clause free inner inner) clauses all)

  some_clauses-right : (inner : List Names) (first : BareClause) (more : List BareClause)
      → ClauseRight first
      → All ClauseRight more
      → Makes RightCode (λ made. map form_of_clause made ≡ clause_as first ∷ map clause_as more)
      (some_clauses_made free scopes inner (clause_meaning first) (map clause_meaning more))
  unfolding some_clauses_made
  some_clauses-right inner first more so all =
      bind-makes RightCode (so.clause free inner scopes) (λ made one.
      bind-makes RightCode (more_clauses-right inner more all) (λ others rest.
      pure-makes RightCode (made ∷ others)
      (ap (λ begins. begins ∷ map form_of_clause others) one
      ∙ ap (λ ends. clause_as first ∷ ends) rest)))

  each_clause-right : (inner : List Names) (clauses : List BareClause)
      → All ClauseRight clauses
      → Makes RightCode (λ made. map form_of_clause made ≡ map clause_as clauses)
      (clauses_made free scopes inner (map clause_meaning clauses))
  unfolding clauses_made
  each_clause-right inner [] all = pure-makes RightCode [] refl
  each_clause-right inner (first ∷ more) all = some_clauses-right inner first more
      (All-head ClauseRight first more all) (All-tail ClauseRight first more all)

  clauses-right : (inner : List Names) (clauses : List BareClause)
      → ForFirst clauses
      → All ClauseRight clauses
      → MakesRight (λ made. are_clauses (map form_of_clause made))
      (clauses_made free scopes inner (map clause_meaning clauses))
  clauses-right inner clauses first all = makes-also RightCode
      (λ made same. clauses-made (map form_of_clause made) clauses same first)
      (each_clause-right inner clauses all)

  -- ---- one of each construct

  list-right : (items : List BareExpr)
      → All ExprRight items
      → MakesRight right_expr (list_made free scopes (map meaning items))
  unfolding list_made
  list-right items all = bind-makes RightCode (items-right items all)
      (λ made few. right _ (e.List made) (is.fold_expr-List expr_forms made ∙ few))

  tuple-right : (items : List BareExpr)
      → All ExprRight items
      → MakesRight right_expr (tuple_made free scopes (map meaning items))
  unfolding tuple_made
  tuple-right items all = bind-makes RightCode (items-right items all)
      (λ made few. right _ (e.Tuple made) (is.fold_expr-Tuple expr_forms made ∙ few))

  dict-right : (pairs : List BarePair)
      → All PairRight pairs
      → MakesRight right_expr (dict_made free scopes (map pair_meaning pairs))
  unfolding dict_made
  dict-right pairs all = bind-makes RightCode (pairs-right pairs all)
      (λ made few. right _ (e.Dict made) (is.fold_expr-Dict expr_forms made ∙ few))

  list_comp-right : (item : BareExpr) (clauses : List BareClause)
      → ExprRight item
      → ForFirst clauses
      → All ClauseRight clauses
      → MakesRight right_expr
      (list_comp_made free scopes (meaning item) (map clause_meaning clauses))
  unfolding list_comp_made
  list_comp-right item clauses so first all =
      let inner = variables (map (λ clause. clause.bound) (map clause_meaning clauses)) ∷ scopes in
      bind-makes RightCode (so.expr free inner) (λ made one.
      bind-makes RightCode (clauses-right inner clauses first all) (λ others few.
      right _ (e.ListComp made others)
      (is.fold_expr-ListComp expr_forms made others ∙ and_from _ _ one few)))

  dict_comp-right : (key value : BareExpr) (clauses : List BareClause)
      → ExprRight key
      → ExprRight value
      → ForFirst clauses
      → All ClauseRight clauses
      → MakesRight right_expr
      (dict_comp_made free scopes (meaning key) (meaning value) (map clause_meaning clauses))
  unfolding dict_comp_made
  dict_comp-right key value clauses so also first all =
      let inner = variables (map (λ clause. clause.bound) (map clause_meaning clauses)) ∷ scopes in
      bind-makes RightCode (so.expr free inner) (λ made_key one.
      bind-makes RightCode (also.expr free inner) (λ made two.
      bind-makes RightCode (clauses-right inner clauses first all) (λ others few.
      right _ (e.DictComp made_key made others)
      (is.fold_expr-DictComp expr_forms made_key made others
      ∙ and_from _ _ (and_from _ _ one two) few))))

  unary-right : (op : UnOp) (operand : BareExpr)
      → ExprRight operand
      → MakesRight right_expr (unary_made free scopes op (meaning operand))
  unfolding unary_made
  unary-right op operand so = bind-makes RightCode (so.expr free scopes)
      (λ made one. right _ (e.Unary op made) (is.fold_expr-Unary expr_forms op made ∙ one))

  binary-right : (op : BinOp) (left right : BareExpr)
      → ExprRight left
      → ExprRight right
      → MakesRight right_expr (binary_made free scopes op (meaning left) (meaning right))
  unfolding binary_made
  binary-right op left second so also =
      bind-makes RightCode (so.expr free scopes) (λ made one.
      bind-makes RightCode (also.expr free scopes) (λ other two.
      right _ (e.Binary op made other)
      (is.fold_expr-Binary expr_forms op made other ∙ and_from _ _ one two)))

  cond-right : (test chosen other : BareExpr)
      → ExprRight test
      → ExprRight chosen
      → ExprRight other
      → MakesRight right_expr
      (cond_made free scopes (meaning test) (meaning chosen) (meaning other))
  unfolding cond_made
  cond-right test chosen other so also more =
      bind-makes RightCode (also.expr free scopes) (λ made_chosen one.
      bind-makes RightCode (so.expr free scopes) (λ made_test two.
      bind-makes RightCode (more.expr free scopes) (λ made_other three.
      right _ (e.Cond made_test made_chosen made_other)
      (is.fold_expr-Cond expr_forms made_test made_chosen made_other
      ∙ and_from _ _ two (and_from _ _ one three)))))

  lambda-right : (params : List BareParam) (body : BareExpr) (line : ℕ)
      → grammar.are_params params ≡ true
      → All ParamRight params
      → ExprRight body
      → MakesRight right_expr
      (lambda_made free scopes (map param_meaning params) (meaning body) line)
  unfolding lambda_made
  lambda-right params body line are all so =
      let inner = variables (map (λ param. param.bound) (map param_meaning params)) ∷ scopes in
      let parts : Making (List Param × Expr) = params_made free scopes
      (map param_meaning params) >>=
      (λ made_params. (meaning body).expr free inner >>= (λ made. pure (made_params, made))) in
      function-makes RightCode {Value = λ (both : List Param × Expr). ParamsRight both.0
      × (right_expr both.1 ≡ true)} parts (λ made. lambda_code made.0 made.1 line)
      (λ place. e.Lambda place)
      (bind-makes RightCode (params-right params are all) (λ made_params few.
      bind-makes RightCode (so.expr free inner) (λ made one.
      pure-makes RightCode (made_params, made) (few, one))))
      (λ made both. and_from _ _ both.0.order (and_from _ _ both.0.defaults both.1))
      (λ place. is.fold_expr-Lambda expr_forms place)

  attr-right : (container : BareExpr) (name : List ℕ)
      → ExprRight container
      → MakesRight right_expr (attr_made free scopes (meaning container) name)
  unfolding attr_made
  attr-right container name so = bind-makes RightCode (so.expr free scopes)
      (λ made one. right _ (e.Attr made name) (is.fold_expr-Attr expr_forms made name ∙ one))

  index-right : (container at : BareExpr)
      → ExprRight container
      → ExprRight at
      → MakesRight right_expr (index_made free scopes (meaning container) (meaning at))
  unfolding index_made
  index-right container at so also =
      bind-makes RightCode (so.expr free scopes) (λ made one.
      bind-makes RightCode (also.expr free scopes) (λ made_at two.
      right _ (e.Index made made_at)
      (is.fold_expr-Index expr_forms made made_at ∙ and_from _ _ one two)))

  index_place-right : (container at : BareExpr)
      → ExprRight container
      → ExprRight at
      → MakesRight is_assignable (index_made free scopes (meaning container) (meaning at))
  unfolding index_made
  index_place-right container at so also =
      bind-makes RightCode (so.expr free scopes) (λ made one.
      bind-makes RightCode (also.expr free scopes) (λ made_at two.
      right _ (e.Index made made_at) (assignable.is_assignable-Index made made_at)))

  slice-right : (container : BareExpr) (begin end step : Option BareExpr)
      → ExprRight container
      → IfSome begin ExprRight
      → IfSome end ExprRight
      → IfSome step ExprRight
      → MakesRight right_expr
      (slice_made free scopes (meaning container) (option_map meaning begin)
      (option_map meaning end) (option_map meaning step))
  unfolding slice_made
  slice-right container begin end step so first second third =
      bind-makes RightCode (so.expr free scopes) (λ made one.
      bind-makes RightCode (maybe-right begin first) (λ made_begin two.
      bind-makes RightCode (maybe-right end second) (λ made_end three.
      bind-makes RightCode (maybe-right step third) (λ made_step four.
      right _ (e.Slice made made_begin made_end made_step)
      (is.fold_expr-Slice expr_forms made made_begin made_end made_step
      ∙ and_from _ _ one (and_from _ _ two (and_from _ _ three four)))))))

  call-right : (function : BareExpr) (args : List BareArg)
      → ExprRight function
      → grammar.are_args args ≡ true
      → All ArgRight args
      → MakesRight right_expr (call_made free scopes (meaning function) (map arg_meaning args))
  unfolding call_made
  call-right function args so are all =
      bind-makes RightCode (so.expr free scopes) (λ made one.
      bind-makes RightCode (args-right args are all) (λ made_args few.
      right _ (e.Call made made_args)
      (is.fold_expr-Call expr_forms made made_args ∙ and_from _ _ one few)))

  index_target-right : (container at : BareExpr)
      → ExprRight container
      → ExprRight at
      → MakesRight right_target (index_target free scopes (meaning container) (meaning at))
  unfolding index_target
  index_target-right container at so also =
      bind-makes RightCode (so.expr free scopes) (λ made one.
      bind-makes RightCode (also.expr free scopes) (λ made_at two.
      right _ (target_tree.Index made made_at)
      (is.fold_target-Index expr_forms made made_at ∙ and_from _ _ one two)))

  many_target-right : (targets : List BareExpr)
      → some_and_all (map is_target targets) ≡ true
      → All ExprRight targets
      → MakesRight right_target (many_target free scopes (map meaning targets))
  unfolding many_target
  many_target-right targets are all = bind-makes RightCode (targets-right targets are all)
      (λ made few. right _ (target_tree.Many made) (is.fold_target-Many expr_forms made ∙ few))

  named_arg-right : (name : List ℕ) (value : BareExpr)
      → ExprRight value
      → Makes RightCode (λ made. form_of_arg made ≡ formed 1 (Some name) true)
      (named_arg_made free scopes name (meaning value))
  unfolding named_arg_made
  named_arg-right name value so = bind-makes RightCode (so.expr free scopes)
      (λ made one. pure-makes RightCode (arg_tree.Named name made)
      (is.fold_arg-Named expr_forms name made ∙ ap (formed 1 (Some name)) one))

  optional-right : (name : List ℕ) (default : BareExpr)
      → ExprRight default
      → Makes RightCode (ParamMade (bare_param.Optional name default))
      (optional_made free scopes name (meaning default))
  unfolding optional_made
  optional-right name default so = bind-makes RightCode (so.expr free scopes)
      (λ made one. pure-makes RightCode (param_tree.Optional name made) (record {
        stage = λ last. sym (ap (grammar.param_stage last) (bare_form.out-Optional name default));
        name = sym (ap grammar.param_name (bare_form.out-Optional name default));
        right = one;
      }))

  pair-right : (key value : BareExpr)
      → ExprRight key
      → ExprRight value
      → MakesRight right_pair (pair_made free scopes (meaning key) (meaning value))
  unfolding pair_made
  pair-right key value so also =
      bind-makes RightCode (so.expr free scopes) (λ made_key one.
      bind-makes RightCode (also.expr free scopes) (λ made two.
      right _ (roll-ExprPair (record { key = made_key; value = made }))
      (is.fold_pair-roll expr_forms made_key made ∙ and_from _ _ one two)))

for_clause-right : (free : Names) (inner around : List Names) (to over : BareExpr)
    → is_target to ≡ true
    → ExprRight to
    → ExprRight over
    → Makes RightCode (λ made. form_of_clause made ≡ looped true true)
    (for_clause_made free inner around (meaning to) (meaning over))
unfolding for_clause_made
for_clause-right free inner around to over are so also =
    bind-makes RightCode (so.target are free inner) (λ made_to one.
    bind-makes RightCode (also.expr free around) (λ made two.
    pure-makes RightCode (clause_tree.For made_to made)
    (is.fold_clause-For expr_forms made_to made ∙ ap (looped true) (and_from _ _ one two))))

-- ---- what is made of each construct

pub name-formed : (name : BareName) → ExprRight (bare.Name name)
name-formed name = subst (ExprForm (bare.Name name)) (sym (layer.meaning-Name name)) (record {
  expr = λ free scopes. right _ (e.Name (variable free scopes name.name))
      (is.fold_expr-Name expr_forms (variable free scopes name.name));
  target = λ are free scopes. right _ (target_tree.Name (variable free scopes name.name))
      (is.fold_target-Name expr_forms (variable free scopes name.name));
  place = λ are free scopes. right _ (e.Name (variable free scopes name.name))
      (assignable.is_assignable-Name (variable free scopes name.name));
})

pub bracketed-formed : (inside : BareExpr) → ExprRight inside → ExprRight (bare.Bracketed inside)
bracketed-formed inside so = subst (ExprForm (bare.Bracketed inside))
    (sym (layer.meaning-Bracketed inside)) (record {
      expr = so.expr;
      target = λ are. so.target (sym (bare_form.is_target-Bracketed inside) ∙ are);
      place = λ are. absurd (false≢true (sym (bare_form.is_place-Bracketed inside) ∙ are));
    })

pub int-formed : (value : ℤ) → ExprRight (bare.Int value)
int-formed value = subst (ExprForm (bare.Int value)) (sym (layer.meaning-Int value)) (record {
  expr = λ free scopes. right _ (e.Int value) (is.fold_expr-Int expr_forms value);
  target = λ is_one. absurd (false≢true (sym (bare_form.is_target-Int value) ∙ is_one));
  place = λ is_one. absurd (false≢true (sym (bare_form.is_place-Int value) ∙ is_one));
})

pub text-formed : (text : List ℕ) → ExprRight (bare.Text text)
text-formed text = subst (ExprForm (bare.Text text)) (sym (layer.meaning-Text text)) (record {
  expr = λ free scopes. right _ (e.Text text) (is.fold_expr-Text expr_forms text);
  target = λ is_one. absurd (false≢true (sym (bare_form.is_target-Text text) ∙ is_one));
  place = λ is_one. absurd (false≢true (sym (bare_form.is_place-Text text) ∙ is_one));
})

pub list-formed : (items : List BareExpr) → All ExprRight items → ExprRight (bare.List items)
list-formed items all = subst (ExprForm (bare.List items)) (sym (layer.meaning-List items))
    (record {
      expr = λ free scopes. list-right free scopes items all;
      target = λ is_one free scopes. many_target-right free scopes items
          (sym (bare_form.is_target-List items) ∙ is_one) all;
      place = λ is_one. absurd (false≢true (sym (bare_form.is_place-List items) ∙ is_one));
    })

pub tuple-formed : (items : List BareExpr) → All ExprRight items → ExprRight (bare.Tuple items)
tuple-formed items all = subst (ExprForm (bare.Tuple items)) (sym (layer.meaning-Tuple items))
    (record {
      expr = λ free scopes. tuple-right free scopes items all;
      target = λ is_one free scopes. many_target-right free scopes items
          (sym (bare_form.is_target-Tuple items) ∙ is_one) all;
      place = λ is_one. absurd (false≢true (sym (bare_form.is_place-Tuple items) ∙ is_one));
    })

pub dict-formed : (pairs : List BarePair) → All PairRight pairs → ExprRight (bare.Dict pairs)
dict-formed pairs all = subst (ExprForm (bare.Dict pairs)) (sym (layer.meaning-Dict pairs))
    (record {
      expr = λ free scopes. dict-right free scopes pairs all;
      target = λ is_one. absurd (false≢true (sym (bare_form.is_target-Dict pairs) ∙ is_one));
      place = λ is_one. absurd (false≢true (sym (bare_form.is_place-Dict pairs) ∙ is_one));
    })

pub list_comp-formed : (item : BareExpr) (clauses : List BareClause)
    → ExprRight item
    → ForFirst clauses
    → All ClauseRight clauses
    → ExprRight (bare.ListComp item clauses)
list_comp-formed item clauses so first all = subst (ExprForm (bare.ListComp item clauses))
    (sym (layer.meaning-ListComp item clauses)) (record {
      expr = λ free scopes. list_comp-right free scopes item clauses so first all;
      target = λ is_one. absurd (false≢true (sym (bare_form.is_target-ListComp item clauses) ∙ is_one));
      place = λ is_one. absurd (false≢true (sym (bare_form.is_place-ListComp item clauses) ∙ is_one));
    })

pub dict_comp-formed : (key value : BareExpr) (clauses : List BareClause)
    → ExprRight key
    → ExprRight value
    → ForFirst clauses
    → All ClauseRight clauses
    → ExprRight (bare.DictComp key value clauses)
dict_comp-formed key value clauses so also first all = subst
    (ExprForm (bare.DictComp key value clauses)) (sym (layer.meaning-DictComp key value clauses))
    (record {
      expr = λ free scopes. dict_comp-right free scopes key value clauses so also first all;
      target = λ is_one. absurd
          (false≢true (sym (bare_form.is_target-DictComp key value clauses) ∙ is_one));
      place = λ is_one. absurd
          (false≢true (sym (bare_form.is_place-DictComp key value clauses) ∙ is_one));
    })

pub unary-formed : (op : UnOp) (operand : BareExpr)
    → ExprRight operand
    → ExprRight (bare.Unary op operand)
unary-formed op operand so = subst (ExprForm (bare.Unary op operand))
    (sym (layer.meaning-Unary op operand)) (record {
      expr = λ free scopes. unary-right free scopes op operand so;
      target = λ is_one. absurd (false≢true (sym (bare_form.is_target-Unary op operand) ∙ is_one));
      place = λ is_one. absurd (false≢true (sym (bare_form.is_place-Unary op operand) ∙ is_one));
    })

pub binary-formed : (op : BinOp) (left right : BareExpr)
    → ExprRight left
    → ExprRight right
    → ExprRight (bare.Binary op left right)
binary-formed op left right so also = subst (ExprForm (bare.Binary op left right))
    (sym (layer.meaning-Binary op left right)) (record {
      expr = λ free scopes. binary-right free scopes op left right so also;
      target = λ is_one. absurd (false≢true (sym (bare_form.is_target-Binary op left right) ∙ is_one));
      place = λ is_one. absurd (false≢true (sym (bare_form.is_place-Binary op left right) ∙ is_one));
    })

pub cond-formed : (test chosen other : BareExpr)
    → ExprRight test
    → ExprRight chosen
    → ExprRight other
    → ExprRight (bare.Cond test chosen other)
cond-formed test chosen other so also more = subst (ExprForm (bare.Cond test chosen other))
    (sym (layer.meaning-Cond test chosen other)) (record {
      expr = λ free scopes. cond-right free scopes test chosen other so also more;
      target = λ is_one. absurd
          (false≢true (sym (bare_form.is_target-Cond test chosen other) ∙ is_one));
      place = λ is_one. absurd (false≢true (sym (bare_form.is_place-Cond test chosen other) ∙ is_one));
    })

pub lambda-formed : (params : List BareParam) (body : BareExpr) (line : ℕ)
    → grammar.are_params params ≡ true
    → All ParamRight params
    → ExprRight body
    → ExprRight (bare.Lambda params body line)
lambda-formed params body line are all so = subst (ExprForm (bare.Lambda params body line))
    (sym (layer.meaning-Lambda params body line)) (record {
      expr = λ free scopes. lambda-right free scopes params body line are all so;
      target = λ is_one. absurd
          (false≢true (sym (bare_form.is_target-Lambda params body line) ∙ is_one));
      place = λ is_one. absurd (false≢true (sym (bare_form.is_place-Lambda params body line) ∙ is_one));
    })

pub attr-formed : (container : BareExpr) (name : List ℕ)
    → ExprRight container
    → ExprRight (bare.Attr container name)
attr-formed container name so = subst (ExprForm (bare.Attr container name))
    (sym (layer.meaning-Attr container name)) (record {
      expr = λ free scopes. attr-right free scopes container name so;
      target = λ is_one. absurd (false≢true (sym (bare_form.is_target-Attr container name) ∙ is_one));
      place = λ is_one. absurd (false≢true (sym (bare_form.is_place-Attr container name) ∙ is_one));
    })

pub index-formed : (container at : BareExpr)
    → ExprRight container
    → ExprRight at
    → ExprRight (bare.Index container at)
index-formed container at so also = subst (ExprForm (bare.Index container at))
    (sym (layer.meaning-Index container at)) (record {
      expr = λ free scopes. index-right free scopes container at so also;
      target = λ is_one free scopes. index_target-right free scopes container at so also;
      place = λ is_one free scopes. index_place-right free scopes container at so also;
    })

pub slice-formed : (container : BareExpr) (begin end step : Option BareExpr)
    → ExprRight container
    → IfSome begin ExprRight
    → IfSome end ExprRight
    → IfSome step ExprRight
    → ExprRight (bare.Slice container begin end step)
slice-formed container begin end step so first second third = subst
    (ExprForm (bare.Slice container begin end step))
    (sym (layer.meaning-Slice container begin end step)) (record {
      expr = λ free scopes. slice-right free scopes container begin end step so first second third;
      target = λ is_one. absurd
          (false≢true (sym (bare_form.is_target-Slice container begin end step) ∙ is_one));
      place = λ is_one. absurd
          (false≢true (sym (bare_form.is_place-Slice container begin end step) ∙ is_one));
    })

pub call-formed : (function : BareExpr) (args : List BareArg)
    → ExprRight function
    → grammar.are_args args ≡ true
    → All ArgRight args
    → ExprRight (bare.Call function args)
call-formed function args so are all = subst (ExprForm (bare.Call function args))
    (sym (layer.meaning-Call function args)) (record {
      expr = λ free scopes. call-right free scopes function args so are all;
      target = λ is_one. absurd (false≢true (sym (bare_form.is_target-Call function args) ∙ is_one));
      place = λ is_one. absurd (false≢true (sym (bare_form.is_place-Call function args) ∙ is_one));
    })

pub positional-formed : (value : BareExpr) → ExprRight value → ArgRight (bare_arg.Positional value)
positional-formed value so = subst (ArgFormed (bare_arg.Positional value))
    (sym (layer.arg_meaning-Positional value)) (record {
      arg = λ free scopes. bind-makes RightCode (so.expr free scopes)
          (λ made one. pure-makes RightCode (arg_tree.Positional made)
          (is.fold_arg-Positional expr_forms made ∙ ap (formed 0 None) one
          ∙ sym (ap arg_formed (bare_form.out-Positional value))));
    })

pub star-formed : (value : BareExpr) (line : ℕ)
    → ExprRight value
    → ArgRight (bare_arg.Star value line)
star-formed value line so = subst (ArgFormed (bare_arg.Star value line))
    (sym (layer.arg_meaning-Star value line)) (record {
      arg = λ free scopes. bind-makes RightCode (so.expr free scopes)
          (λ made one. pure-makes RightCode (arg_tree.Star made)
          (is.fold_arg-Star expr_forms made ∙ ap (formed 2 None) one
          ∙ sym (ap arg_formed (bare_form.out-Star value line))));
    })

pub double_star-formed : (value : BareExpr) (line : ℕ)
    → ExprRight value
    → ArgRight (bare_arg.DoubleStar value line)
double_star-formed value line so = subst (ArgFormed (bare_arg.DoubleStar value line))
    (sym (layer.arg_meaning-DoubleStar value line)) (record {
      arg = λ free scopes. bind-makes RightCode (so.expr free scopes)
          (λ made one. pure-makes RightCode (arg_tree.DoubleStar made)
          (is.fold_arg-DoubleStar expr_forms made ∙ ap (formed 3 None) one
          ∙ sym (ap arg_formed (bare_form.out-DoubleStar value line))));
    })

pub named-formed : (name : List ℕ) (value : BareExpr)
    → ExprRight value
    → ArgRight (bare_arg.Named name value)
named-formed name value so = subst (ArgFormed (bare_arg.Named name value))
    (sym (layer.arg_meaning-Named name value)) (record {
      arg = λ free scopes. makes-also RightCode
          (λ made one. one ∙ sym (ap arg_formed (bare_form.out-Named name value)))
          (named_arg-right free scopes name value so);
    })

pub for_clause-formed : (to over : BareExpr)
    → is_target to ≡ true
    → ExprRight to
    → ExprRight over
    → ClauseRight (bare_clause.For to over)
for_clause-formed to over are so also = subst (ClauseFormed (bare_clause.For to over))
    (sym (layer.clause_meaning-For to over)) (record {
      clause = λ free inner around. makes-also RightCode
          (λ made one. one ∙ sym (ap clause_formed (bare_form.out-For to over)))
          (for_clause-right free inner around to over are so also);
    })

pub if_clause-formed : (test : BareExpr) → ExprRight test → ClauseRight (bare_clause.If test)
if_clause-formed test so = subst (ClauseFormed (bare_clause.If test))
    (sym (layer.clause_meaning-If test)) (record {
      clause = λ free inner around. bind-makes RightCode (so.expr free inner)
          (λ made one. pure-makes RightCode (clause_tree.If made)
          (is.fold_clause-If expr_forms made ∙ ap (looped false) one
          ∙ sym (ap clause_formed (bare_form.out-If test))));
    })

pub required-formed : (name : List ℕ) → ParamRight (bare_param.Required name)
required-formed name = subst (ParamFormed (bare_param.Required name))
    (sym (layer.param_meaning-Required name)) (record {
      param = λ free scopes. pure-makes RightCode (param_tree.Required name)
          (record {
            stage = λ last. sym
                (ap (grammar.param_stage last) (bare_form.out-Required name));
            name = sym
                (ap grammar.param_name (bare_form.out-Required name));
            right = refl;
          });
    })

pub bare-formed : (line : ℕ) → ParamRight (bare_param.Bare line)
bare-formed line = subst (ParamFormed (bare_param.Bare line)) (sym (layer.param_meaning-Bare line))
    (record {
      param = λ free scopes. pure-makes RightCode param_tree.Bare
          (record {
            stage = λ last. sym
                (ap (grammar.param_stage last) (bare_form.out-Bare line));
            name = sym
                (ap grammar.param_name (bare_form.out-Bare line));
            right = refl;
          });
    })

pub rest-formed : (name : List ℕ) (line : ℕ) → ParamRight (bare_param.Rest name line)
rest-formed name line = subst (ParamFormed (bare_param.Rest name line))
    (sym (layer.param_meaning-Rest name line)) (record {
      param = λ free scopes. pure-makes RightCode (param_tree.Rest name)
          (record {
            stage = λ last. sym
                (ap (grammar.param_stage last) (bare_form.out-Rest name line));
            name = sym
                (ap grammar.param_name (bare_form.out-Rest name line));
            right = refl;
          });
    })

pub keywords-formed : (name : List ℕ) (line : ℕ) → ParamRight (bare_param.Keywords name line)
keywords-formed name line = subst (ParamFormed (bare_param.Keywords name line))
    (sym (layer.param_meaning-Keywords name line)) (record {
      param = λ free scopes. pure-makes RightCode (param_tree.Keywords name)
          (record {
            stage = λ last. sym
                (ap (grammar.param_stage last) (bare_form.out-Keywords name line));
            name = sym
                (ap grammar.param_name (bare_form.out-Keywords name line));
            right = refl;
          });
    })

pub optional-formed : (name : List ℕ) (default : BareExpr)
    → ExprRight default
    → ParamRight (bare_param.Optional name default)
optional-formed name default so = subst (ParamFormed (bare_param.Optional name default))
    (sym (layer.param_meaning-Optional name default))
    (record { param = λ free scopes. optional-right free scopes name default so })

pub entry-formed : (key value : BareExpr)
    → ExprRight key
    → ExprRight value
    → PairRight (roll-BarePair (record { key = key; value = value }))
entry-formed key value so also = subst PairFormed (sym (pair_meaning-roll key value))
    (record { pair = λ free scopes. pair-right free scopes key value so also })
