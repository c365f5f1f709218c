-- The value of a tree of each construct, by those of its parts.
use Rattle.std.proofs.Common.{rules, ◌≡◌, ℕ, ℤ, List, map, Option, option_map}
use Rattle.star_trees.specs.Folds.{ExprValues, StmtValues, fold_arg, fold_clause, fold_expr}
use Rattle.star_trees.specs.Folds.{fold_kind, fold_pair, fold_stmt, fold_target}
use Rattle.star_trees.specs.declared.trees.Arg as arg
use Rattle.star_trees.specs.declared.trees.Arg.{Arg}
use Rattle.star_trees.specs.declared.trees.Arg.TheOpen.{Arg-F, Clause-F, Expr-F, Target-F}
use Rattle.star_trees.specs.declared.trees.BinOp.{BinOp}
use Rattle.star_trees.specs.declared.trees.Clause as clause
use Rattle.star_trees.specs.declared.trees.Clause.{Clause}
use Rattle.star_trees.specs.declared.trees.Expr as e
use Rattle.star_trees.specs.declared.trees.Expr.{Expr, the_lemmas}
use Rattle.star_trees.specs.declared.trees.ExprPair.{ExprPair, roll-ExprPair}
use Rattle.star_trees.specs.declared.trees.Stmt.{Stmt, roll-Stmt}
use Rattle.star_trees.specs.declared.trees.StmtKind as st
use Rattle.star_trees.specs.declared.trees.StmtKind.{StmtKind}
use Rattle.star_trees.specs.declared.trees.StmtKind.TheOpen.{StmtKind-F}
use Rattle.star_trees.specs.declared.trees.Target as target
use Rattle.star_trees.specs.declared.trees.Target.{Target}
use Rattle.star_trees.specs.declared.trees.UnOp.{UnOp}
use Rattle.star_trees.specs.declared.trees.Var.{Var}

module _ {A C E T P : Type 0} (values : ExprValues A C E T P) where
  pub fold_expr-Name : (variable : Var)
      → fold_expr values (e.Name variable) ≡ values.expr (Expr-F.Expr::Name variable)
  unfolding fold_arg fold_clause fold_expr fold_pair fold_target
  fold_expr-Name variable = search (rules, the_lemmas)

  pub fold_expr-Int : (value : ℤ) → fold_expr values (e.Int value) ≡ values.expr (Expr-F.Int value)
  unfolding fold_arg fold_clause fold_expr fold_pair fold_target
  fold_expr-Int value = search (rules, the_lemmas)

  pub fold_expr-Text : (text : List ℕ)
      → fold_expr values (e.Text text) ≡ values.expr (Expr-F.Text text)
  unfolding fold_arg fold_clause fold_expr fold_pair fold_target
  fold_expr-Text text = search (rules, the_lemmas)

  pub fold_expr-List : (items : List Expr)
      → fold_expr values (e.List items) ≡ values.expr (Expr-F.List (map (fold_expr values) items))
  unfolding fold_arg fold_clause fold_expr fold_pair fold_target
  fold_expr-List items = search (rules, the_lemmas)

  pub fold_expr-Tuple : (items : List Expr)
      → fold_expr values (e.Tuple items) ≡ values.expr (Expr-F.Tuple (map (fold_expr values) items))
  unfolding fold_arg fold_clause fold_expr fold_pair fold_target
  fold_expr-Tuple items = search (rules, the_lemmas)

  pub fold_expr-Dict : (pairs : List ExprPair)
      → fold_expr values (e.Dict pairs) ≡ values.expr (Expr-F.Dict (map (fold_pair values) pairs))
  unfolding fold_arg fold_clause fold_expr fold_pair fold_target
  fold_expr-Dict pairs = search (rules, the_lemmas)

  pub fold_expr-ListComp : (item : Expr) (clauses : List Clause)
      → fold_expr values (e.ListComp item clauses) ≡ values.expr
      (Expr-F.ListComp (fold_expr values item) (map (fold_clause values) clauses))
  unfolding fold_arg fold_clause fold_expr fold_pair fold_target
  fold_expr-ListComp item clauses = search (rules, the_lemmas)

  pub fold_expr-DictComp : (key value : Expr) (clauses : List Clause)
      → fold_expr values (e.DictComp key value clauses) ≡ values.expr
      (Expr-F.DictComp (fold_expr values key) (fold_expr values value)
      (map (fold_clause values) clauses))
  unfolding fold_arg fold_clause fold_expr fold_pair fold_target
  fold_expr-DictComp key value clauses = search (rules, the_lemmas)

  pub fold_expr-Unary : (op : UnOp) (operand : Expr)
      → fold_expr values (e.Unary op operand) ≡ values.expr
      (Expr-F.Unary op (fold_expr values operand))
  unfolding fold_arg fold_clause fold_expr fold_pair fold_target
  fold_expr-Unary op operand = search (rules, the_lemmas)

  pub fold_expr-Binary : (op : BinOp) (left right : Expr)
      → fold_expr values (e.Binary op left right) ≡ values.expr
      (Expr-F.Binary op (fold_expr values left) (fold_expr values right))
  unfolding fold_arg fold_clause fold_expr fold_pair fold_target
  fold_expr-Binary op left right = search (rules, the_lemmas)

  pub fold_expr-Cond : (test chosen other : Expr)
      → fold_expr values (e.Cond test chosen other) ≡ values.expr
      (Expr-F.Cond (fold_expr values test) (fold_expr values chosen) (fold_expr values other))
  unfolding fold_arg fold_clause fold_expr fold_pair fold_target
  fold_expr-Cond test chosen other = search (rules, the_lemmas)

  pub fold_expr-Lambda : (index : ℕ)
      → fold_expr values (e.Lambda index) ≡ values.expr (Expr-F.Lambda index)
  unfolding fold_arg fold_clause fold_expr fold_pair fold_target
  fold_expr-Lambda index = search (rules, the_lemmas)

  pub fold_expr-Attr : (container : Expr) (name : List ℕ)
      → fold_expr values (e.Attr container name) ≡ values.expr
      (Expr-F.Attr (fold_expr values container) name)
  unfolding fold_arg fold_clause fold_expr fold_pair fold_target
  fold_expr-Attr container name = search (rules, the_lemmas)

  pub fold_expr-Index : (container at : Expr)
      → fold_expr values (e.Index container at) ≡ values.expr
      (Expr-F.Expr::Index (fold_expr values container) (fold_expr values at))
  unfolding fold_arg fold_clause fold_expr fold_pair fold_target
  fold_expr-Index container at = search (rules, the_lemmas)

  pub fold_expr-Slice : (container : Expr) (begin end step : Option Expr)
      → fold_expr values (e.Slice container begin end step) ≡ values.expr
      (Expr-F.Slice (fold_expr values container) (option_map (fold_expr values) begin)
      (option_map (fold_expr values) end) (option_map (fold_expr values) step))
  unfolding fold_arg fold_clause fold_expr fold_pair fold_target
  fold_expr-Slice container begin end step = search (rules, the_lemmas)

  pub fold_expr-Call : (function : Expr) (args : List Arg)
      → fold_expr values (e.Call function args) ≡ values.expr
      (Expr-F.Call (fold_expr values function) (map (fold_arg values) args))
  unfolding fold_arg fold_clause fold_expr fold_pair fold_target
  fold_expr-Call function args = search (rules, the_lemmas)

  pub fold_arg-Positional : (value : Expr)
      → fold_arg values (arg.Positional value) ≡ values.arg
      (Arg-F.Positional (fold_expr values value))
  unfolding fold_arg fold_clause fold_expr fold_pair fold_target
  fold_arg-Positional value = search (rules, the_lemmas)

  pub fold_arg-Named : (name : List ℕ) (value : Expr)
      → fold_arg values (arg.Named name value) ≡ values.arg
      (Arg-F.Named name (fold_expr values value))
  unfolding fold_arg fold_clause fold_expr fold_pair fold_target
  fold_arg-Named name value = search (rules, the_lemmas)

  pub fold_arg-Star : (value : Expr)
      → fold_arg values (arg.Star value) ≡ values.arg (Arg-F.Star (fold_expr values value))
  unfolding fold_arg fold_clause fold_expr fold_pair fold_target
  fold_arg-Star value = search (rules, the_lemmas)

  pub fold_arg-DoubleStar : (value : Expr)
      → fold_arg values (arg.DoubleStar value) ≡ values.arg
      (Arg-F.DoubleStar (fold_expr values value))
  unfolding fold_arg fold_clause fold_expr fold_pair fold_target
  fold_arg-DoubleStar value = search (rules, the_lemmas)

  pub fold_clause-For : (to : Target) (over : Expr)
      → fold_clause values (clause.For to over) ≡ values.clause
      (Clause-F.For (fold_target values to) (fold_expr values over))
  unfolding fold_arg fold_clause fold_expr fold_pair fold_target
  fold_clause-For to over = search (rules, the_lemmas)

  pub fold_clause-If : (test : Expr)
      → fold_clause values (clause.If test) ≡ values.clause (Clause-F.If (fold_expr values test))
  unfolding fold_arg fold_clause fold_expr fold_pair fold_target
  fold_clause-If test = search (rules, the_lemmas)

  pub fold_target-Name : (variable : Var)
      → fold_target values (target.Name variable) ≡ values.target (Target-F.Target::Name variable)
  unfolding fold_arg fold_clause fold_expr fold_pair fold_target
  fold_target-Name variable = search (rules, the_lemmas)

  pub fold_target-Index : (container at : Expr)
      → fold_target values (target.Index container at) ≡ values.target
      (Target-F.Target::Index (fold_expr values container) (fold_expr values at))
  unfolding fold_arg fold_clause fold_expr fold_pair fold_target
  fold_target-Index container at = search (rules, the_lemmas)

  pub fold_target-Many : (targets : List Target)
      → fold_target values (target.Many targets) ≡ values.target
      (Target-F.Many (map (fold_target values) targets))
  unfolding fold_arg fold_clause fold_expr fold_pair fold_target
  fold_target-Many targets = search (rules, the_lemmas)

  pub fold_pair-roll : (key value : Expr)
      → fold_pair values (roll-ExprPair (record { key = key; value = value })) ≡ values.pair
      (record { key = fold_expr values key; value = fold_expr values value })
  unfolding fold_arg fold_clause fold_expr fold_pair fold_target
  fold_pair-roll key value = search (rules, the_lemmas)

module _ {K S : Type 0} (values : StmtValues K S) where
  pub fold_kind-Def : (index : ℕ) (to : Var)
      → fold_kind values (st.Def index to) ≡ values.kind (StmtKind-F.Def index to)
  unfolding fold_kind fold_stmt
  fold_kind-Def index to = search (rules, st.the_lemmas)

  pub fold_kind-If : (test : Expr) (chosen other : List Stmt)
      → fold_kind values (st.If test chosen other) ≡ values.kind
      (StmtKind-F.If test (map (fold_stmt values) chosen) (map (fold_stmt values) other))
  unfolding fold_kind fold_stmt
  fold_kind-If test chosen other = search (rules, st.the_lemmas)

  pub fold_kind-For : (to : Target) (over : Expr) (body : List Stmt)
      → fold_kind values (st.For to over body) ≡ values.kind
      (StmtKind-F.For to over (map (fold_stmt values) body))
  unfolding fold_kind fold_stmt
  fold_kind-For to over body = search (rules, st.the_lemmas)

  pub fold_kind-Return : (value : Option Expr)
      → fold_kind values (st.Return value) ≡ values.kind (StmtKind-F.Return value)
  unfolding fold_kind fold_stmt
  fold_kind-Return value = search (rules, st.the_lemmas)

  pub fold_kind-Break : fold_kind values st.Break ≡ values.kind StmtKind-F.Break
  unfolding fold_kind fold_stmt
  fold_kind-Break = search (rules, st.the_lemmas)

  pub fold_kind-Continue : fold_kind values st.Continue ≡ values.kind StmtKind-F.Continue
  unfolding fold_kind fold_stmt
  fold_kind-Continue = search (rules, st.the_lemmas)

  pub fold_kind-Pass : fold_kind values st.Pass ≡ values.kind StmtKind-F.Pass
  unfolding fold_kind fold_stmt
  fold_kind-Pass = search (rules, st.the_lemmas)

  pub fold_kind-Load : (index : ℕ)
      → fold_kind values (st.Load index) ≡ values.kind (StmtKind-F.Load index)
  unfolding fold_kind fold_stmt
  fold_kind-Load index = search (rules, st.the_lemmas)

  pub fold_kind-Assign : (to : Target) (value : Expr)
      → fold_kind values (st.Assign to value) ≡ values.kind (StmtKind-F.Assign to value)
  unfolding fold_kind fold_stmt
  fold_kind-Assign to value = search (rules, st.the_lemmas)

  pub fold_kind-Augment : (to : Expr) (op : BinOp) (value : Expr)
      → fold_kind values (st.Augment to op value) ≡ values.kind (StmtKind-F.Augment to op value)
  unfolding fold_kind fold_stmt
  fold_kind-Augment to op value = search (rules, st.the_lemmas)

  pub fold_kind-Value : (value : Expr)
      → fold_kind values (st.Value value) ≡ values.kind (StmtKind-F.Value value)
  unfolding fold_kind fold_stmt
  fold_kind-Value value = search (rules, st.the_lemmas)

  pub fold_stmt-roll : (line : ℕ) (kind : StmtKind)
      → fold_stmt values (roll-Stmt (record { line = line; kind = kind })) ≡ values.stmt
      (record { line = line; kind = fold_kind values kind })
  unfolding fold_kind fold_stmt
  fold_stmt-roll line kind = search (rules, st.the_lemmas)
