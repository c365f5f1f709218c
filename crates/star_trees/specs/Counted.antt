-- The variables of a file's trees, counted again from the trees alone: the Starlark specification,
-- "Name binding and variables".
use Rattle.std.specs.Prelude.{◌≡◌, ℕ, ◌<◌, Bool, true, false, ◌&&◌, eqb, bytes_eq, List, [], ◌∷◌}
use Rattle.std.specs.Prelude.{◌++◌, length, get_or, map, Option, Some, None, option_map, EachIndex}
use Rattle.std.specs.Cmp.Lexicographic.{pointwise}
use Rattle.star_trees.specs.declared.files.File.{File}
use Rattle.star_trees.specs.declared.files.FnBody.{FnBody}
use Rattle.star_trees.specs.declared.files.FnBody.TheVariants as body
use Rattle.star_trees.specs.declared.files.FnCode.{FnCode}
use Rattle.star_trees.specs.declared.files.Param.{Param}
use Rattle.star_trees.specs.declared.files.Param.TheVariants as param
use Rattle.star_trees.specs.declared.loads.Load.{Load}
use Rattle.star_trees.specs.declared.loads.LoadName.{LoadName}
use Rattle.star_trees.specs.declared.trees.Arg.TheOpen.{Arg-F, Clause-F, Expr-F, ExprPair-F}
use Rattle.star_trees.specs.declared.trees.Arg.TheOpen.{Target-F}
use Rattle.star_trees.specs.declared.trees.StmtKind.TheOpen.{StmtKind-F}
use Rattle.star_trees.specs.Variables.{Names, scope_and_slot, slot_of, Binding, no_binding}
use Rattle.star_trees.specs.Variables.{each_binds, name_binds, function_variables, variables}
use Rattle.star_trees.specs.Functions.{unfinished_code}
use Rattle.star_trees.specs.Folds.{ExprValues, StmtValues, fold_arg, fold_clause, fold_expr}
use Rattle.star_trees.specs.Folds.{fold_kind, fold_pair, fold_stmt, fold_target}
use Rattle.star_trees.specs.declared.trees.Arg.{Arg}
use Rattle.star_trees.specs.declared.trees.Clause.{Clause}
use Rattle.star_trees.specs.declared.trees.Expr.{Expr}
use Rattle.star_trees.specs.declared.trees.ExprPair.{ExprPair}
use Rattle.star_trees.specs.declared.trees.Stmt.{Stmt}
use Rattle.star_trees.specs.declared.trees.StmtKind.{StmtKind}
use Rattle.star_trees.specs.declared.trees.Target.{Target}
use Rattle.star_trees.specs.declared.trees.Var.{Var}

-- whether a tree's variables are counted right where some scopes stand round it, from the innermost
-- on
abbrev pub Counted : Type 0
Counted = List Names → Bool

-- each is counted right
abbrev pub each_counted : List Counted → Counted
each_counted [] scopes = true
each_counted (one ∷ more) scopes = one scopes && each_counted more scopes

-- what is absent is counted right
abbrev pub maybe_counted : Option Counted → Counted
maybe_counted None scopes = true
maybe_counted (Some one) scopes = one scopes

-- a tree that may bind: what it binds in the scope in which it stands, beside whether its variables
-- are counted right
pub record Tally : Type 0 where
  pub bound : Binding
  pub counted : Counted

-- a clause by the scopes of what it binds, and then those of the operand of `in`
pub record ClauseTally : Type 0 where
  pub bound : Binding
  pub counted : List Names → Counted

-- whether the variables of a tree are counted right, by its tally
abbrev pub counted_of : Tally → Counted
counted_of tally = tally.counted

-- what a tree binds, by its tally
abbrev pub bound_of : Tally → Binding
bound_of tally = tally.bound

-- what some trees bind, each in turn
abbrev pub each_bound : List Tally → Binding
each_bound tallies = each_binds (map bound_of tallies)

-- the variables of each tree are counted right
abbrev pub all_counted : List Tally → Counted
all_counted tallies = each_counted (map counted_of tallies)

-- what binds nothing
abbrev pub plain : Counted → Tally
plain counted = record { bound = no_binding; counted = counted }

-- the operand of the first `in` stands outside the comprehension
abbrev pub clauses_counted : List ClauseTally → List Names → Counted
clauses_counted [] inner scopes = true
clauses_counted (first ∷ more) inner scopes =
    first.counted inner scopes
    && each_counted (map (λ (clause : ClauseTally). clause.counted inner) more) inner

-- the variables that the clauses of a comprehension bind
abbrev pub clauses_bound : List ClauseTally → Names
clauses_bound clauses = variables (map (λ (clause : ClauseTally). clause.bound) clauses)

-- two lists of scopes have the same names
abbrev pub same_scopes : List Names → List Names → Bool
same_scopes = pointwise (pointwise bytes_eq)

-- a slot is this index
abbrev pub is_slot : Option ℕ → ℕ → Bool
is_slot (Some index) slot = eqb slot index
is_slot None slot = false

-- a variable is the one that is found for its name, or else a free name
abbrev pub is_variable : Names → List Names → Var → Option (ℕ × ℕ) → Bool
is_variable free scopes variable (Some (scope, slot)) =
    eqb variable.scope scope && eqb variable.slot slot
is_variable free scopes variable None =
    eqb variable.scope (length scopes) && is_slot (slot_of free variable.name) variable.slot

-- a variable is of the innermost scope that binds its name, at the name's slot there; where none
-- binds it, it is a free name at its slot, whose scope stands behind those
unfoldable pub variable_counted : Names → Var → Counted
variable_counted free variable scopes =
    is_variable free scopes variable (scope_and_slot scopes variable.name)

-- the binding of a loaded name
abbrev pub loaded_binds : LoadName → Binding
loaded_binds loaded = name_binds loaded.local

-- what no statement loads
abbrev pub no_load : Load
no_load = record { file = []; names = []; line = 0 }

-- trees of a file with these free names and loads, where `around` gives the scopes that stand round
-- the `def` or the `lambda` of each function
module _ (free : Names) (loads : List Load) (around : ℕ → List Names) where
  -- an argument by its value
  abbrev pub arg_counted : Arg-F Counted ClauseTally Tally Tally Counted → Counted
  arg_counted (Arg-F.Positional value) scopes = value.counted scopes
  arg_counted (Arg-F.Named name value) scopes = value.counted scopes
  arg_counted (Arg-F.Star value) scopes = value.counted scopes
  arg_counted (Arg-F.DoubleStar value) scopes = value.counted scopes

  -- a clause by its parts
  abbrev pub clause_tally : Clause-F Counted ClauseTally Tally Tally Counted → ClauseTally
  clause_tally (Clause-F.For to over) =
      record { bound = to.bound; counted = λ inner scopes. to.counted inner && over.counted scopes }
  clause_tally (Clause-F.If test) =
      record { bound = no_binding; counted = λ inner scopes. test.counted inner }

  -- an expression binds where an augmented assignment is to it
  abbrev pub expr_tally : Expr-F Counted ClauseTally Tally Tally Counted → Tally
  expr_tally (Expr-F.Expr::Name variable) =
      record { bound = name_binds variable.name; counted = variable_counted free variable }
  expr_tally (Expr-F.Int value) = plain (λ scopes. true)
  expr_tally (Expr-F.Text text) = plain (λ scopes. true)
  expr_tally (Expr-F.List items) = record { bound = each_bound items; counted = all_counted items }
  expr_tally (Expr-F.Tuple items) = record { bound = each_bound items; counted = all_counted items }
  expr_tally (Expr-F.Dict pairs) = plain (each_counted pairs)
  expr_tally (Expr-F.ListComp item clauses) = plain (λ scopes.
      let inner = clauses_bound clauses ∷ scopes in
      item.counted inner && clauses_counted clauses inner scopes)
  expr_tally (Expr-F.DictComp key value clauses) = plain (λ scopes.
      let inner = clauses_bound clauses ∷ scopes in
      (key.counted inner && value.counted inner) && clauses_counted clauses inner scopes)
  expr_tally (Expr-F.Unary op operand) = plain operand.counted
  expr_tally (Expr-F.Binary op left right) =
      plain (λ scopes. left.counted scopes && right.counted scopes)
  expr_tally (Expr-F.Cond test chosen other) =
      plain (λ scopes. test.counted scopes && (chosen.counted scopes && other.counted scopes))
  expr_tally (Expr-F.Lambda index) = plain (same_scopes (around index))
  expr_tally (Expr-F.Attr container name) = plain container.counted
  expr_tally (Expr-F.Expr::Index container at) =
      plain (λ scopes. container.counted scopes && at.counted scopes)
  expr_tally (Expr-F.Slice container begin end step) = plain (λ scopes.
      container.counted scopes
      && (maybe_counted (option_map counted_of begin) scopes
      && (maybe_counted (option_map counted_of end) scopes
      && maybe_counted (option_map counted_of step) scopes)))
  expr_tally (Expr-F.Call function args) =
      plain (λ scopes. function.counted scopes && each_counted args scopes)

  -- an entry by its parts
  abbrev pub pair_counted : ExprPair-F Counted ClauseTally Tally Tally Counted → Counted
  pair_counted pair scopes = pair.key.counted scopes && pair.value.counted scopes

  -- a target by its parts
  abbrev pub target_tally : Target-F Counted ClauseTally Tally Tally Counted → Tally
  target_tally (Target-F.Target::Name variable) =
      record { bound = name_binds variable.name; counted = variable_counted free variable }
  target_tally (Target-F.Target::Index container at) =
      plain (λ scopes. container.counted scopes && at.counted scopes)
  target_tally (Target-F.Many targets) =
      record { bound = each_bound targets; counted = all_counted targets }

  -- the tallies of the trees of expressions
  abbrev pub expr_tallies : ExprValues Counted ClauseTally Tally Tally Counted
  expr_tallies = record {
    arg = arg_counted;
    clause = clause_tally;
    expr = expr_tally;
    target = target_tally;
    pair = pair_counted;
  }

  -- whether the variables of an argument are counted right
  abbrev pub arg_in : Arg → Counted
  arg_in = fold_arg expr_tallies

  -- the tally of a clause
  abbrev pub clause_in : Clause → ClauseTally
  clause_in = fold_clause expr_tallies

  -- the tally of an expression
  abbrev pub expr_in : Expr → Tally
  expr_in = fold_expr expr_tallies

  -- whether the variables of an entry are counted right
  abbrev pub pair_in : ExprPair → Counted
  pair_in = fold_pair expr_tallies

  -- the tally of a target
  abbrev pub target_in : Target → Tally
  target_in = fold_target expr_tallies

  -- an `if` by its parts
  abbrev pub if_tally : Tally → List Tally → List Tally → Tally
  if_tally test chosen other = record {
    bound = λ names. each_bound other (each_bound chosen names);
    counted = λ scopes.
        test.counted scopes && (all_counted chosen scopes && all_counted other scopes);
  }

  -- a `for` by its parts
  abbrev pub for_tally : Tally → Tally → List Tally → Tally
  for_tally to over body = record {
    bound = λ names. each_bound body (to.bound names);
    counted = λ scopes. to.counted scopes && (over.counted scopes && all_counted body scopes);
  }

  -- a statement by what it says
  abbrev pub kind_tally : StmtKind-F Tally Tally → Tally
  kind_tally (StmtKind-F.Def index to) = record {
    bound = name_binds to.name;
    counted = λ scopes. same_scopes (around index) scopes && variable_counted free to scopes;
  }
  kind_tally (StmtKind-F.If test chosen other) = if_tally (expr_in test) chosen other
  kind_tally (StmtKind-F.For to over body) = for_tally (target_in to) (expr_in over) body
  kind_tally (StmtKind-F.Return value) =
      plain (maybe_counted (option_map counted_of (option_map expr_in value)))
  kind_tally StmtKind-F.Break = plain (λ scopes. true)
  kind_tally StmtKind-F.Continue = plain (λ scopes. true)
  kind_tally StmtKind-F.Pass = plain (λ scopes. true)
  kind_tally (StmtKind-F.Load index) = record {
    bound = each_binds (map loaded_binds (get_or loads index no_load).names);
    counted = λ scopes. true;
  }
  kind_tally (StmtKind-F.Assign to value) = record {
    bound = (target_in to).bound;
    counted = λ scopes. (target_in to).counted scopes && (expr_in value).counted scopes;
  }
  kind_tally (StmtKind-F.Augment to op value) = record {
    bound = (expr_in to).bound;
    counted = λ scopes. (expr_in to).counted scopes && (expr_in value).counted scopes;
  }
  kind_tally (StmtKind-F.Value value) = plain (expr_in value).counted

  -- the tallies of statements
  abbrev pub stmt_tallies : StmtValues Tally Tally
  stmt_tallies = record { kind = kind_tally; stmt = λ stmt. stmt.kind }

  -- the tally of what a statement says
  abbrev pub kind_in : StmtKind → Tally
  kind_in = fold_kind stmt_tallies

  -- the tally of a statement
  abbrev pub stmt_in : Stmt → Tally
  stmt_in = fold_stmt stmt_tallies

  -- a parameter binds its name, and its default stands outside the function
  abbrev pub param_tally : Param → Tally
  param_tally (param.Required name) = record { bound = name_binds name; counted = λ scopes. true }
  param_tally (param.Optional name default) =
      record { bound = name_binds name; counted = (expr_in default).counted }
  param_tally param.Bare = plain (λ scopes. true)
  param_tally (param.Rest name) = record { bound = name_binds name; counted = λ scopes. true }
  param_tally (param.Keywords name) = record { bound = name_binds name; counted = λ scopes. true }

  -- what the body of a function binds in its scope
  abbrev pub body_bound : FnBody → List Binding
  body_bound (body.Block statements) = map bound_of (map stmt_in statements)
  body_bound (body.Value value) = []

  -- whether the variables of the body of a function are counted right
  abbrev pub body_counted : FnBody → Counted
  body_counted (body.Block statements) scopes = all_counted (map stmt_in statements) scopes
  body_counted (body.Value value) scopes = (expr_in value).counted scopes

  -- the variables of a function: its parameters, and what its body binds
  abbrev pub code_variables : FnCode → Names
  code_variables code =
      function_variables (map bound_of (map param_tally code.params)) (body_bound code.body)

  -- the defaults stand outside the function, whose own scope stands round its body
  abbrev pub code_counted : FnCode → Counted
  code_counted code scopes =
      all_counted (map param_tally code.params) scopes
      && body_counted code.body (code_variables code ∷ scopes)

  -- the variables of a file
  abbrev pub file_variables : List Stmt → Names
  file_variables statements = variables (map bound_of (map stmt_in statements))

-- Each variable stands at the scope and the slot that its name has there, where a function's scope
-- has what its parameters and its body bind, a comprehension's what its clauses bind, and the
-- file's what its statements bind.
pub record VariablesAreCounted (file : File) : Type 0 where
  pub around : ℕ → List Names
  pub body :
      all_counted (map (stmt_in file.free file.loads around) file.body)
      (file_variables file.free file.loads around file.body ∷ []) ≡ true
  pub functions :
      EachIndex file.functions
      (λ index.
      code_counted file.free file.loads around
      (get_or file.functions index unfinished_code) (around index) ≡ true)

-- A variable's slot is one of those of its scope, where the free names stand behind the scopes, and
-- has its name there.
pub record StandsThere (free : Names) (scopes : List Names) (variable : Var) : Type 0 where
  pub slot : variable.slot < length (get_or (scopes ++ free ∷ []) variable.scope [])
  pub name :
      get_or (get_or (scopes ++ free ∷ []) variable.scope []) variable.slot [] ≡ variable.name
