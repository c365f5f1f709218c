-- What is made of an expression is no deeper than the expression, nor is any function that is made
-- beside it.
use Rattle.std.proofs.Common.{rules, ◌≡◌, ℕ, ◌+◌, ◌≤◌, ◌<◌, max, ℤ, true, List, [], ◌∷◌, map, All}
use Rattle.std.proofs.Common.{IfSome, Option, Some, None, option_map, arith, le_trans, subst, sym}
use Rattle.std.specs.List.{AllZip}
use Rattle.std.proofs.lemmas.List.Elements.{All-head, All-tail}
use Rattle.star_conditions.proofs.ExpressionIndexes.{of_each}
use Rattle.star_conditions.proofs.Made.{Makes, pure-makes, bind-makes, makes-also, each-makes}
use Rattle.star_conditions.proofs.Made.{function-makes}
use Rattle.star_trees.proofs.Folds as is
use Rattle.star_conditions.proofs.Conditions.{ForFirst}
use Rattle.star_trees.specs.Nesting.{depth_of_arg, depth_of_clause, depth_of_code, depth_of_expr}
use Rattle.star_trees.specs.Nesting.{depth_of_pair, depth_of_param, depth_of_target, expr_depths}
use Rattle.star_trees.specs.Indexes.{greatest, number_or_zero}
use Rattle.star_trees.specs.declared.trees.Arg as arg_tree
use Rattle.star_trees.specs.declared.trees.BinOp.{BinOp}
use Rattle.star_trees.specs.declared.trees.Clause as clause_tree
use Rattle.star_trees.specs.declared.trees.Expr as e
use Rattle.star_trees.specs.declared.trees.Expr.{Expr}
use Rattle.star_trees.specs.declared.trees.ExprPair.{roll-ExprPair}
use Rattle.star_trees.specs.declared.trees.Target as target_tree
use Rattle.star_trees.specs.declared.trees.UnOp.{UnOp}
use Rattle.star_trees.specs.declared.files.FnCode.{FnCode}
use Rattle.star_trees.specs.declared.files.Param.{Param}
use Rattle.star_trees.specs.declared.files.Param.TheVariants as param_tree
use Rattle.star_grammar.specs.declared.bare_expressions.BareArg as bare_arg
use Rattle.star_grammar.specs.declared.bare_expressions.BareArg.{BareArg}
use Rattle.star_grammar.specs.declared.bare_expressions.BareClause as bare_clause
use Rattle.star_grammar.specs.declared.bare_expressions.BareClause.{BareClause}
use Rattle.star_grammar.specs.declared.bare_expressions.BareExpr as bare
use Rattle.star_grammar.specs.declared.bare_expressions.BareExpr.{BareExpr, the_lemmas}
use Rattle.star_grammar.specs.declared.bare_expressions.BareName.{BareName}
use Rattle.star_grammar.specs.declared.bare_expressions.BarePair.{BarePair, roll-BarePair}
use Rattle.star_grammar.specs.declared.bare_expressions.BareParam as bare_param
use Rattle.star_grammar.specs.declared.bare_expressions.BareParam.{BareParam}
use Rattle.star_grammar.specs.Orders.{are_args, are_params}
use Rattle.star_trees.specs.Variables.{Names, variables}
use Rattle.star_scopes.specs.ExprMaking.{items_made, pairs_made, args_made, params_made}
use Rattle.star_scopes.specs.ExprMaking.{targets_made, maybe_made, list_made, tuple_made, dict_made}
use Rattle.star_scopes.specs.ExprMaking.{more_clauses_made, some_clauses_made, clauses_made}
use Rattle.star_scopes.specs.ExprMaking.{list_comp_made, dict_comp_made, unary_made, binary_made}
use Rattle.star_scopes.specs.ExprMaking.{cond_made, lambda_made, lambda_code, attr_made, index_made}
use Rattle.star_scopes.specs.ExprMaking.{slice_made, call_made, index_target, many_target}
use Rattle.star_scopes.specs.ExprMaking.{named_arg_made, optional_made, pair_made, for_clause_made}
use Rattle.star_scopes.proofs.Layers as layer
use Rattle.star_scopes.specs.ExprMeaning.{arg_meaning, clause_meaning, meaning, pair_meaning}
use Rattle.star_scopes.specs.ExprMeaning.{pair_step, param_meaning}
use Rattle.star_scopes.specs.Making.{Making, ◌>>=◌, pure, each}
use Rattle.star_scopes.specs.Meanings.{ArgMeaning, ClauseMeaning, ExprMeaning, PairMeaning}
use Rattle.star_scopes.specs.Meanings.{ParamMeaning}
use Rattle.star_scopes.specs.Scopes.{variable}

-- the code of a function that is not too deep
abbrev pub Shallow : FnCode → Type 0
Shallow code = depth_of_code code ≤ 128

-- a making of what is at most so deep
abbrev pub MakesWithin : {A : Type 0} → (A → ℕ) → ℕ → Making A → Type 0
MakesWithin depth n making = Makes Shallow (λ made. depth made ≤ n) making

pub within : {A : Type 0} (depth : A → ℕ) (n : ℕ) (a : A)
    → depth a ≤ n
    → MakesWithin depth n (pure a)
within depth n a so = pure-makes Shallow a so

greatest-zipped : {A C : Type 0} (depth : A → ℕ) (n : ℕ) (items : List C) (made : List A)
    → AllZip (λ c a. depth a ≤ n) items made
    → greatest (map depth made) ≤ n
greatest-zipped depth n [] [] all = omega arith
greatest-zipped depth n [] (a ∷ made) all = absurd all
greatest-zipped depth n (item ∷ items) [] all = absurd all
greatest-zipped depth n (item ∷ items)
    (a ∷ made) all = let one = all.0 in let more = greatest-zipped depth n items made all.1 in omega
    (arith, one, more)

pub each-within : {A B C : Type 0} (Item : C → Type 0) (depth : A → ℕ) (n : ℕ) (make : B → Making A)
    (means : C → B) → ((c : C) → Item c → MakesWithin depth n (make (means c)))
    → (items : List C)
    → All Item items
    → MakesWithin (of_each depth) n (each (map make (map means items)))
each-within Item depth n make means makes items all = makes-also Shallow
    (λ made zipped. greatest-zipped depth n items made zipped)
    (each-makes Shallow Item (λ c a. depth a ≤ n) make means makes items all)

-- ---- meanings that make no deeper trees

pub record ExprWithin (n : ℕ) (m : ExprMeaning) : Type 0 where
  pub expr : (free : Names) (scopes : List Names) → MakesWithin depth_of_expr n (m.expr free scopes)
  pub target : (free : Names) (scopes : List Names)
      → MakesWithin depth_of_target n (m.target free scopes)

pub record ArgWithin (n : ℕ) (m : ArgMeaning) : Type 0 where
  pub arg : (free : Names) (scopes : List Names) → MakesWithin depth_of_arg n (m.arg free scopes)

pub record ClauseWithin (n : ℕ) (m : ClauseMeaning) : Type 0 where
  pub clause : (free : Names) (inner around : List Names)
      → MakesWithin depth_of_clause n (m.clause free inner around)

pub record ParamWithin (n : ℕ) (m : ParamMeaning) : Type 0 where
  pub param : (free : Names) (scopes : List Names)
      → MakesWithin depth_of_param n (m.param free scopes)

pub record PairWithin (n : ℕ) (m : PairMeaning) : Type 0 where
  pub pair : (free : Names) (scopes : List Names) → MakesWithin depth_of_pair n (m.pair free scopes)

abbrev pub ExprNested : ℕ → BareExpr → Type 0
ExprNested n tree = ExprWithin n (meaning tree)

abbrev pub ArgNested : ℕ → BareArg → Type 0
ArgNested n tree = ArgWithin n (arg_meaning tree)

abbrev pub ClauseNested : ℕ → BareClause → Type 0
ClauseNested n tree = ClauseWithin n (clause_meaning tree)

abbrev pub ParamNested : ℕ → BareParam → Type 0
ParamNested n tree = ParamWithin n (param_meaning tree)

abbrev pub PairNested : ℕ → BarePair → Type 0
PairNested n tree = PairWithin n (pair_meaning tree)

-- ---- lists of parts

module _ (free : Names) (scopes : List Names) (n : ℕ) where
  pub items-nested : (items : List BareExpr)
      → All (ExprNested n) items
      → MakesWithin (of_each depth_of_expr) n (items_made free scopes (map meaning items))
  unfolding items_made
  items-nested = each-within (ExprNested n) depth_of_expr n (λ item. item.expr free scopes) meaning
      (λ tree so. so.expr free scopes)

  pairs-nested : (pairs : List BarePair)
      → All (PairNested n) pairs
      → MakesWithin (of_each depth_of_pair) n (pairs_made free scopes (map pair_meaning pairs))
  unfolding pairs_made
  pairs-nested = each-within (PairNested n) depth_of_pair n
      (λ pair. pair.pair free scopes) pair_meaning (λ tree so. so.pair free scopes)

  args-nested : (args : List BareArg)
      → All (ArgNested n) args
      → MakesWithin (of_each depth_of_arg) n (args_made free scopes (map arg_meaning args))
  unfolding args_made
  args-nested = each-within (ArgNested n) depth_of_arg n (λ arg. arg.arg free scopes) arg_meaning
      (λ tree so. so.arg free scopes)

  pub params-nested : (params : List BareParam)
      → All (ParamNested n) params
      → MakesWithin (of_each depth_of_param) n (params_made free scopes (map param_meaning params))
  unfolding params_made
  params-nested = each-within (ParamNested n) depth_of_param n
      (λ param. param.param free scopes) param_meaning (λ tree so. so.param free scopes)

  targets-nested : (targets : List BareExpr)
      → All (ExprNested n) targets
      → MakesWithin (of_each depth_of_target) n (targets_made free scopes (map meaning targets))
  unfolding targets_made
  targets-nested = each-within (ExprNested n) depth_of_target n
      (λ target. target.target free scopes) meaning (λ tree so. so.target free scopes)

  maybe-nested : (bound : Option BareExpr)
      → IfSome bound (ExprNested n)
      → MakesWithin (λ made. number_or_zero (option_map depth_of_expr made)) n
      (maybe_made free scopes (option_map meaning bound))
  unfolding maybe_made
  maybe-nested None so = within _ n None (omega arith)
  maybe-nested (Some bound) so = bind-makes Shallow (so.expr free scopes)
      (λ made one. within _ n (Some made) one)

  more_clauses-nested : (inner : List Names) (clauses : List BareClause)
      → All (ClauseNested n) clauses
      → MakesWithin (of_each depth_of_clause) n
      (more_clauses_made free scopes inner (map clause_meaning clauses))
  unfolding more_clauses_made
  more_clauses-nested inner = each-within (ClauseNested n) depth_of_clause n
      (λ clause. clause.clause free inner inner) clause_meaning
      (λ tree so. so.clause free inner inner)

  some_clauses-nested : (inner : List Names) (first : BareClause) (more : List BareClause)
      → ClauseNested n first
      → All (ClauseNested n) more
      → MakesWithin (of_each depth_of_clause) n
      (some_clauses_made free scopes inner (clause_meaning first) (map clause_meaning more))
  unfolding some_clauses_made
  some_clauses-nested inner first more so all =
      bind-makes Shallow (so.clause free inner scopes) (λ made one.
      bind-makes Shallow (more_clauses-nested inner more all) (λ others few.
      within _ n (made ∷ others) (omega arith)))

  clauses-nested : (inner : List Names) (clauses : List BareClause)
      → All (ClauseNested n) clauses
      → MakesWithin (of_each depth_of_clause) n
      (clauses_made free scopes inner (map clause_meaning clauses))
  unfolding clauses_made
  clauses-nested inner [] all = within _ n [] (omega arith)
  clauses-nested inner (first ∷ more) all = some_clauses-nested inner first more
      (All-head (ClauseNested n) first more all) (All-tail (ClauseNested n) first more all)

  -- ---- one of each construct, at one more than its parts

  list-nested : (items : List BareExpr)
      → All (ExprNested n) items
      → MakesWithin depth_of_expr (n + 1) (list_made free scopes (map meaning items))
  unfolding list_made
  list-nested items all = bind-makes Shallow (items-nested items all)
      (λ made few. within _ _ (e.List made)
      (omega (arith, is.fold_expr-List expr_depths made, few)))

  tuple-nested : (items : List BareExpr)
      → All (ExprNested n) items
      → MakesWithin depth_of_expr (n + 1) (tuple_made free scopes (map meaning items))
  unfolding tuple_made
  tuple-nested items all = bind-makes Shallow (items-nested items all)
      (λ made few. within _ _ (e.Tuple made)
      (omega (arith, is.fold_expr-Tuple expr_depths made, few)))

  dict-nested : (pairs : List BarePair)
      → All (PairNested n) pairs
      → MakesWithin depth_of_expr (n + 1) (dict_made free scopes (map pair_meaning pairs))
  unfolding dict_made
  dict-nested pairs all = bind-makes Shallow (pairs-nested pairs all)
      (λ made few. within _ _ (e.Dict made)
      (omega (arith, is.fold_expr-Dict expr_depths made, few)))

  list_comp-nested : (item : BareExpr) (clauses : List BareClause)
      → ExprNested n item
      → All (ClauseNested n) clauses
      → MakesWithin depth_of_expr (n + 1)
      (list_comp_made free scopes (meaning item) (map clause_meaning clauses))
  unfolding list_comp_made
  list_comp-nested item clauses so all =
      let inner = variables (map (λ clause. clause.bound) (map clause_meaning clauses)) ∷ scopes in
      bind-makes Shallow (so.expr free inner) (λ made one.
      bind-makes Shallow (clauses-nested inner clauses all) (λ others few.
      within _ _ (e.ListComp made others)
      (omega (arith, is.fold_expr-ListComp expr_depths made others))))

  dict_comp-nested : (key value : BareExpr) (clauses : List BareClause)
      → ExprNested n key
      → ExprNested n value
      → All (ClauseNested n) clauses
      → MakesWithin depth_of_expr (n + 1)
      (dict_comp_made free scopes (meaning key) (meaning value) (map clause_meaning clauses))
  unfolding dict_comp_made
  dict_comp-nested key value clauses so also all =
      let inner = variables (map (λ clause. clause.bound) (map clause_meaning clauses)) ∷ scopes in
      bind-makes Shallow (so.expr free inner) (λ made_key one.
      bind-makes Shallow (also.expr free inner) (λ made two.
      bind-makes Shallow (clauses-nested inner clauses all) (λ others few.
      within _ _ (e.DictComp made_key made others)
      (omega (arith, is.fold_expr-DictComp expr_depths made_key made others)))))

  unary-nested : (op : UnOp) (operand : BareExpr)
      → ExprNested n operand
      → MakesWithin depth_of_expr (n + 1) (unary_made free scopes op (meaning operand))
  unfolding unary_made
  unary-nested op operand so = bind-makes Shallow (so.expr free scopes)
      (λ made one. within _ _ (e.Unary op made)
      (omega (arith, is.fold_expr-Unary expr_depths op made, one)))

  binary-nested : (op : BinOp) (left right : BareExpr)
      → ExprNested n left
      → ExprNested n right
      → MakesWithin depth_of_expr (n + 1)
      (binary_made free scopes op (meaning left) (meaning right))
  unfolding binary_made
  binary-nested op left right so also =
      bind-makes Shallow (so.expr free scopes) (λ made one.
      bind-makes Shallow (also.expr free scopes) (λ other two.
      within _ _ (e.Binary op made other)
      (omega (arith, is.fold_expr-Binary expr_depths op made other))))

  cond-nested : (test chosen other : BareExpr)
      → ExprNested n test
      → ExprNested n chosen
      → ExprNested n other
      → MakesWithin depth_of_expr (n + 1)
      (cond_made free scopes (meaning test) (meaning chosen) (meaning other))
  unfolding cond_made
  cond-nested test chosen other so also more =
      bind-makes Shallow (also.expr free scopes) (λ made_chosen one.
      bind-makes Shallow (so.expr free scopes) (λ made_test two.
      bind-makes Shallow (more.expr free scopes) (λ made_other three.
      within _ _ (e.Cond made_test made_chosen made_other)
      (omega (arith, is.fold_expr-Cond expr_depths made_test made_chosen made_other)))))

  -- the code of a `lambda` is as deep as the `lambda`
  lambda-nested : (params : List BareParam) (body : BareExpr) (line : ℕ)
      → n < 128
      → All (ParamNested n) params
      → ExprNested n body
      → MakesWithin depth_of_expr (n + 1)
      (lambda_made free scopes (map param_meaning params) (meaning body) line)
  unfolding lambda_made
  lambda-nested params body line less all so =
      let inner = variables (map (λ param. param.bound) (map param_meaning params)) ∷ scopes in
      let parts : Making (List Param × Expr) = params_made free scopes
      (map param_meaning params) >>=
      (λ made_params. (meaning body).expr free inner >>= (λ made. pure (made_params, made))) in
      function-makes Shallow parts (λ made. lambda_code made.0 made.1 line)
      (λ place. e.Lambda place)
      (bind-makes Shallow (params-nested params all) (λ made_params few.
      bind-makes Shallow (so.expr free inner) (λ made one.
      within (λ both. max (of_each depth_of_param both.0) (depth_of_expr both.1)) n
      (made_params, made) (omega arith))))
      (λ made few. omega (arith, few))
      (λ place. omega (arith, is.fold_expr-Lambda expr_depths place))

  attr-nested : (container : BareExpr) (name : List ℕ)
      → ExprNested n container
      → MakesWithin depth_of_expr (n + 1) (attr_made free scopes (meaning container) name)
  unfolding attr_made
  attr-nested container name so = bind-makes Shallow (so.expr free scopes)
      (λ made one. within _ _ (e.Attr made name)
      (omega (arith, is.fold_expr-Attr expr_depths made name, one)))

  index-nested : (container at : BareExpr)
      → ExprNested n container
      → ExprNested n at
      → MakesWithin depth_of_expr (n + 1) (index_made free scopes (meaning container) (meaning at))
  unfolding index_made
  index-nested container at so also =
      bind-makes Shallow (so.expr free scopes) (λ made one.
      bind-makes Shallow (also.expr free scopes) (λ made_at two.
      within _ _ (e.Index made made_at)
      (omega (arith, is.fold_expr-Index expr_depths made made_at))))

  slice-nested : (container : BareExpr) (begin end step : Option BareExpr)
      → ExprNested n container
      → IfSome begin (ExprNested n)
      → IfSome end (ExprNested n)
      → IfSome step (ExprNested n)
      → MakesWithin depth_of_expr (n + 1)
      (slice_made free scopes (meaning container) (option_map meaning begin)
      (option_map meaning end) (option_map meaning step))
  unfolding slice_made
  slice-nested container begin end step so first second third =
      bind-makes Shallow (so.expr free scopes) (λ made one.
      bind-makes Shallow (maybe-nested begin first) (λ made_begin two.
      bind-makes Shallow (maybe-nested end second) (λ made_end three.
      bind-makes Shallow (maybe-nested step third) (λ made_step four.
      within _ _ (e.Slice made made_begin made_end made_step)
      (omega (arith, is.fold_expr-Slice expr_depths made made_begin made_end made_step))))))

  call-nested : (function : BareExpr) (args : List BareArg)
      → ExprNested n function
      → All (ArgNested n) args
      → MakesWithin depth_of_expr (n + 1)
      (call_made free scopes (meaning function) (map arg_meaning args))
  unfolding call_made
  call-nested function args so all =
      bind-makes Shallow (so.expr free scopes) (λ made one.
      bind-makes Shallow (args-nested args all) (λ made_args few.
      within _ _ (e.Call made made_args)
      (omega (arith, is.fold_expr-Call expr_depths made made_args))))

  index_target-nested : (container at : BareExpr)
      → ExprNested n container
      → ExprNested n at
      → MakesWithin depth_of_target (n + 1)
      (index_target free scopes (meaning container) (meaning at))
  unfolding index_target
  index_target-nested container at so also =
      bind-makes Shallow (so.expr free scopes) (λ made one.
      bind-makes Shallow (also.expr free scopes) (λ made_at two.
      within _ _ (target_tree.Index made made_at)
      (omega (arith, is.fold_target-Index expr_depths made made_at))))

  many_target-nested : (targets : List BareExpr)
      → All (ExprNested n) targets
      → MakesWithin depth_of_target (n + 1) (many_target free scopes (map meaning targets))
  unfolding many_target
  many_target-nested targets all = bind-makes Shallow (targets-nested targets all)
      (λ made few. within _ _ (target_tree.Many made)
      (omega (arith, is.fold_target-Many expr_depths made, few)))

  named_arg-nested : (name : List ℕ) (value : BareExpr)
      → ExprNested n value
      → MakesWithin depth_of_arg n (named_arg_made free scopes name (meaning value))
  unfolding named_arg_made
  named_arg-nested name value so = bind-makes Shallow (so.expr free scopes)
      (λ made one. within _ n (arg_tree.Named name made)
      (omega (arith, is.fold_arg-Named expr_depths name made, one)))

  optional-nested : (name : List ℕ) (default : BareExpr)
      → ExprNested n default
      → MakesWithin depth_of_param n (optional_made free scopes name (meaning default))
  unfolding optional_made
  optional-nested name default so = bind-makes Shallow (so.expr free scopes)
      (λ made one. within _ n (param_tree.Optional name made) one)

  pair-nested : (key value : BareExpr)
      → ExprNested n key
      → ExprNested n value
      → MakesWithin depth_of_pair n (pair_made free scopes (meaning key) (meaning value))
  unfolding pair_made
  pair-nested key value so also =
      bind-makes Shallow (so.expr free scopes) (λ made_key one.
      bind-makes Shallow (also.expr free scopes) (λ made two.
      within _ n (roll-ExprPair (record { key = made_key; value = made }))
      (omega (arith, is.fold_pair-roll expr_depths made_key made))))

for_clause-nested : (n : ℕ) (free : Names) (inner around : List Names) (to over : BareExpr)
    → ExprNested n to
    → ExprNested n over
    → MakesWithin depth_of_clause n (for_clause_made free inner around (meaning to) (meaning over))
unfolding for_clause_made
for_clause-nested n free inner around to over so also =
    bind-makes Shallow (so.target free inner) (λ made_to one.
    bind-makes Shallow (also.expr free around) (λ made two.
    within _ n (clause_tree.For made_to made)
    (omega (arith, is.fold_clause-For expr_depths made_to made))))

-- ---- what is made of each construct

-- what is made at one depth is made within a greater one
pub raised : {A : Type 0} (depth : A → ℕ) (n m : ℕ) (making : Making A)
    → n ≤ m
    → MakesWithin depth n making
    → MakesWithin depth m making
raised depth n m making below so = makes-also Shallow (λ made one. le_trans one below) so

deeper-meaning : (n m : ℕ) (one : ExprMeaning) → n ≤ m → ExprWithin n one → ExprWithin m one
deeper-meaning n m one below so = record {
  expr = λ free scopes. raised depth_of_expr n m _ below
      (so.expr free scopes);
  target = λ free scopes. raised depth_of_target n m _ below
      (so.target free scopes);
}

pub deeper-expr : (n m : ℕ) (tree : BareExpr) → n ≤ m → ExprNested n tree → ExprNested m tree
deeper-expr n m tree = deeper-meaning n m (meaning tree)

pub deeper-arg : (n m : ℕ) (tree : BareArg) → n ≤ m → ArgNested n tree → ArgNested m tree
deeper-arg n m tree below so = record {
  arg = λ free scopes. raised depth_of_arg n m _ below
      (so.arg free scopes);
}

pub deeper-clause : (n m : ℕ) (tree : BareClause)
    → n ≤ m
    → ClauseNested n tree
    → ClauseNested m tree
deeper-clause n m tree below so = record {
  clause = λ free inner around. raised depth_of_clause n m _ below
      (so.clause free inner around);
}

pub deeper-param : (n m : ℕ) (tree : BareParam) → n ≤ m → ParamNested n tree → ParamNested m tree
deeper-param n m tree below so = record {
  param = λ free scopes. raised depth_of_param n m _ below
      (so.param free scopes);
}

pub deeper-pair : (n m : ℕ) (tree : BarePair) → n ≤ m → PairNested n tree → PairNested m tree
deeper-pair n m tree below so = record {
  pair = λ free scopes. raised depth_of_pair n m _ below
      (so.pair free scopes);
}

-- a pair by its parts
pub pair_meaning-roll : (key value : BareExpr)
    → pair_meaning (roll-BarePair (record { key = key; value = value }))
    ≡ pair_step (record { key = meaning key; value = meaning value })
unfolding meaning arg_meaning clause_meaning param_meaning pair_meaning
pair_meaning-roll key value = search (rules, the_lemmas)

-- what is no target makes one with nothing in it
no_target : (n : ℕ) → MakesWithin depth_of_target (n + 1) (pure (target_tree.Many []))
no_target n = within _ _ (target_tree.Many []) (omega (arith, is.fold_target-Many expr_depths []))

pub name-within : (name : BareName) → ExprNested 1 (bare.Name name)
name-within name = subst (ExprWithin 1) (sym (layer.meaning-Name name)) (record {
  expr = λ free scopes. within _ 1 (e.Name (variable free scopes name.name))
      (omega (arith, is.fold_expr-Name expr_depths (variable free scopes name.name)));
  target = λ free scopes. within _ 1 (target_tree.Name (variable free scopes name.name))
      (omega (arith, is.fold_target-Name expr_depths (variable free scopes name.name)));
})

pub int-within : (value : ℤ) → ExprNested 1 (bare.Int value)
int-within value = subst (ExprWithin 1) (sym (layer.meaning-Int value))
    (record {
      expr = λ free scopes. within _ 1 (e.Int value)
          (omega (arith, is.fold_expr-Int expr_depths value));
      target = λ free scopes. no_target 0;
    })

pub text-within : (text : List ℕ) → ExprNested 1 (bare.Text text)
text-within text = subst (ExprWithin 1) (sym (layer.meaning-Text text))
    (record {
      expr = λ free scopes. within _ 1 (e.Text text)
          (omega (arith, is.fold_expr-Text expr_depths text));
      target = λ free scopes. no_target 0;
    })

pub bracketed-within : (n : ℕ) (inside : BareExpr)
    → ExprNested n inside
    → ExprNested (n + 1) (bare.Bracketed inside)
bracketed-within n inside so = subst (ExprWithin (n + 1)) (sym (layer.meaning-Bracketed inside))
    (deeper-meaning n (n + 1) (meaning inside) (omega arith) so)

pub list-within : (n : ℕ) (items : List BareExpr)
    → All (ExprNested n) items
    → ExprNested (n + 1) (bare.List items)
list-within n items all = subst (ExprWithin (n + 1)) (sym (layer.meaning-List items))
    (record {
      expr = λ free scopes. list-nested free scopes n items all;
      target = λ free scopes.
          many_target-nested free scopes n items all;
    })

pub tuple-within : (n : ℕ) (items : List BareExpr)
    → All (ExprNested n) items
    → ExprNested (n + 1) (bare.Tuple items)
tuple-within n items all = subst (ExprWithin (n + 1)) (sym (layer.meaning-Tuple items))
    (record {
      expr = λ free scopes. tuple-nested free scopes n items all;
      target = λ free scopes.
          many_target-nested free scopes n items all;
    })

pub dict-within : (n : ℕ) (pairs : List BarePair)
    → All (PairNested n) pairs
    → ExprNested (n + 1) (bare.Dict pairs)
dict-within n pairs all = subst (ExprWithin (n + 1)) (sym (layer.meaning-Dict pairs))
    (record {
      expr = λ free scopes. dict-nested free scopes n pairs all;
      target = λ free scopes.
          no_target n;
    })

pub list_comp-within : (n : ℕ) (item : BareExpr) (clauses : List BareClause)
    → ExprNested n item
    → ForFirst clauses
    → All (ClauseNested n) clauses
    → ExprNested (n + 1) (bare.ListComp item clauses)
list_comp-within n item clauses so _ all = subst (ExprWithin (n + 1))
    (sym (layer.meaning-ListComp item clauses))
    (record {
      expr = λ free scopes. list_comp-nested free scopes n item clauses so all;
      target = λ
          free scopes. no_target n;
    })

pub dict_comp-within : (n : ℕ) (key value : BareExpr) (clauses : List BareClause)
    → ExprNested n key
    → ExprNested n value
    → ForFirst clauses
    → All (ClauseNested n) clauses
    → ExprNested (n + 1) (bare.DictComp key value clauses)
dict_comp-within n key value clauses so also _ all = subst (ExprWithin (n + 1))
    (sym (layer.meaning-DictComp key value clauses))
    (record {
      expr = λ free scopes. dict_comp-nested free scopes n key value clauses so also all;
      target = λ free scopes. no_target n;
    })

pub unary-within : (n : ℕ) (op : UnOp) (operand : BareExpr)
    → ExprNested n operand
    → ExprNested (n + 1) (bare.Unary op operand)
unary-within n op operand so = subst (ExprWithin (n + 1)) (sym (layer.meaning-Unary op operand))
    (record {
      expr = λ free scopes. unary-nested free scopes n op operand so;
      target = λ free
          scopes. no_target n;
    })

pub binary-within : (n : ℕ) (op : BinOp) (left right : BareExpr)
    → ExprNested n left
    → ExprNested n right
    → ExprNested (n + 1) (bare.Binary op left right)
binary-within n op left right so also = subst (ExprWithin (n + 1))
    (sym (layer.meaning-Binary op left right))
    (record {
      expr = λ free scopes. binary-nested free scopes n op left right so also;
      target = λ
          free scopes. no_target n;
    })

pub cond-within : (n : ℕ) (test chosen other : BareExpr)
    → ExprNested n test
    → ExprNested n chosen
    → ExprNested n other
    → ExprNested (n + 1) (bare.Cond test chosen other)
cond-within n test chosen other so also more = subst (ExprWithin (n + 1))
    (sym (layer.meaning-Cond test chosen other))
    (record {
      expr = λ free scopes. cond-nested free scopes n test chosen other so also more;
      target
          = λ free scopes. no_target n;
    })

pub lambda-within : (n : ℕ) (params : List BareParam) (body : BareExpr) (line : ℕ)
    → n < 128
    → are_params params ≡ true
    → All (ParamNested n) params
    → ExprNested n body
    → ExprNested (n + 1) (bare.Lambda params body line)
lambda-within n params body line less _ all so = subst (ExprWithin (n + 1))
    (sym (layer.meaning-Lambda params body line))
    (record {
      expr = λ free scopes. lambda-nested free scopes n params body line less all so;
      target
          = λ free scopes. no_target n;
    })

pub attr-within : (n : ℕ) (container : BareExpr) (name : List ℕ)
    → ExprNested n container
    → ExprNested (n + 1) (bare.Attr container name)
attr-within n container name so = subst (ExprWithin (n + 1))
    (sym (layer.meaning-Attr container name))
    (record {
      expr = λ free scopes. attr-nested free scopes n container name so;
      target = λ free
          scopes. no_target n;
    })

pub index-within : (n : ℕ) (container at : BareExpr)
    → ExprNested n container
    → ExprNested n at
    → ExprNested (n + 1) (bare.Index container at)
index-within n container at so also = subst (ExprWithin (n + 1))
    (sym (layer.meaning-Index container at))
    (record {
      expr = λ free scopes. index-nested free scopes n container at so also;
      target = λ free
          scopes. index_target-nested free scopes n container at so also;
    })

pub slice-within : (n : ℕ) (container : BareExpr) (begin end step : Option BareExpr)
    → ExprNested n container
    → IfSome begin (ExprNested n)
    → IfSome end (ExprNested n)
    → IfSome step (ExprNested n)
    → ExprNested (n + 1) (bare.Slice container begin end step)
slice-within n container begin end step so first second third = subst (ExprWithin (n + 1))
    (sym (layer.meaning-Slice container begin end step))
    (record {
      expr = λ free scopes. slice-nested free scopes n container begin end step so first
          second third;
      target = λ free scopes. no_target n;
    })

pub call-within : (n : ℕ) (function : BareExpr) (args : List BareArg)
    → ExprNested n function
    → are_args args ≡ true
    → All (ArgNested n) args
    → ExprNested (n + 1) (bare.Call function args)
call-within n function args so _ all = subst (ExprWithin (n + 1))
    (sym (layer.meaning-Call function args))
    (record {
      expr = λ free scopes. call-nested free scopes n function args so all;
      target = λ free
          scopes. no_target n;
    })

pub positional-within : (n : ℕ) (value : BareExpr)
    → ExprNested n value
    → ArgNested n (bare_arg.Positional value)
positional-within n value so = subst (ArgWithin n) (sym (layer.arg_meaning-Positional value))
    (record {
      arg = λ free scopes. bind-makes Shallow (so.expr free scopes)
          (λ made one. within _ n (arg_tree.Positional made)
          (omega (arith, is.fold_arg-Positional expr_depths made, one)));
    })

pub named-within : (n : ℕ) (name : List ℕ) (value : BareExpr)
    → ExprNested n value
    → ArgNested n (bare_arg.Named name value)
named-within n name value so = subst (ArgWithin n) (sym (layer.arg_meaning-Named name value))
    (record { arg = λ free scopes. named_arg-nested free scopes n name value so })

pub star-within : (n : ℕ) (value : BareExpr) (line : ℕ)
    → ExprNested n value
    → ArgNested n (bare_arg.Star value line)
star-within n value line so = subst (ArgWithin n) (sym (layer.arg_meaning-Star value line))
    (record {
      arg = λ free scopes. bind-makes Shallow (so.expr free scopes)
          (λ made one. within _ n (arg_tree.Star made)
          (omega (arith, is.fold_arg-Star expr_depths made, one)));
    })

pub double_star-within : (n : ℕ) (value : BareExpr) (line : ℕ)
    → ExprNested n value
    → ArgNested n (bare_arg.DoubleStar value line)
double_star-within n value line so = subst (ArgWithin n)
    (sym (layer.arg_meaning-DoubleStar value line))
    (record {
      arg = λ free scopes. bind-makes Shallow (so.expr free scopes)
          (λ made one. within _ n (arg_tree.DoubleStar made)
          (omega (arith, is.fold_arg-DoubleStar expr_depths made, one)));
    })

pub for_clause-within : (n : ℕ) (to over : BareExpr)
    → ExprNested n to
    → ExprNested n over
    → ClauseNested n (bare_clause.For to over)
for_clause-within n to over so also = subst (ClauseWithin n)
    (sym (layer.clause_meaning-For to over))
    (record { clause = λ free inner around. for_clause-nested n free inner around to over so also })

pub if_clause-within : (n : ℕ) (test : BareExpr)
    → ExprNested n test
    → ClauseNested n (bare_clause.If test)
if_clause-within n test so = subst (ClauseWithin n) (sym (layer.clause_meaning-If test))
    (record {
      clause = λ free inner around. bind-makes Shallow (so.expr free inner)
          (λ made one. within _ n (clause_tree.If made)
          (omega (arith, is.fold_clause-If expr_depths made, one)));
    })

pub required-within : (name : List ℕ) → ParamNested 1 (bare_param.Required name)
required-within name = subst (ParamWithin 1) (sym (layer.param_meaning-Required name))
    (record { param = λ free scopes. within _ 1 (param_tree.Required name) (omega arith) })

pub optional-within : (n : ℕ) (name : List ℕ) (default : BareExpr)
    → ExprNested n default
    → ParamNested n (bare_param.Optional name default)
optional-within n name default so = subst (ParamWithin n)
    (sym (layer.param_meaning-Optional name default))
    (record { param = λ free scopes. optional-nested free scopes n name default so })

pub bare-within : (line : ℕ) → ParamNested 1 (bare_param.Bare line)
bare-within line = subst (ParamWithin 1) (sym (layer.param_meaning-Bare line))
    (record { param = λ free scopes. within _ 1 param_tree.Bare (omega arith) })

pub rest-within : (name : List ℕ) (line : ℕ) → ParamNested 1 (bare_param.Rest name line)
rest-within name line = subst (ParamWithin 1) (sym (layer.param_meaning-Rest name line))
    (record { param = λ free scopes. within _ 1 (param_tree.Rest name) (omega arith) })

pub keywords-within : (name : List ℕ) (line : ℕ) → ParamNested 1 (bare_param.Keywords name line)
keywords-within name line = subst (ParamWithin 1) (sym (layer.param_meaning-Keywords name line))
    (record { param = λ free scopes. within _ 1 (param_tree.Keywords name) (omega arith) })

pub entry-within : (n : ℕ) (key value : BareExpr)
    → ExprNested n key
    → ExprNested n value
    → PairNested n (roll-BarePair (record { key = key; value = value }))
entry-within n key value so also = subst (PairWithin n) (sym (pair_meaning-roll key value))
    (record { pair = λ free scopes. pair-nested free scopes n key value so also })
