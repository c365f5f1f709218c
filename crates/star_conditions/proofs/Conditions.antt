-- Conditions on bare trees with their depths, and what it is that each production of the grammar
-- keeps them.
use Rattle.std.proofs.Common.{◌≡◌, ℕ, ◌+◌, ◌≤◌, ◌<◌, true, ℤ, List, ◌∷◌, All, IfSome, Option, Some}
use Rattle.std.proofs.Common.{None}
use Rattle.star_trees.specs.declared.trees.BinOp.{BinOp}
use Rattle.star_trees.specs.declared.trees.UnOp.{UnOp}
use Rattle.star_grammar.specs.declared.bare_expressions.BareArg as arg
use Rattle.star_grammar.specs.declared.bare_expressions.BareArg.{BareArg}
use Rattle.star_grammar.specs.declared.bare_expressions.BareClause as clause
use Rattle.star_grammar.specs.declared.bare_expressions.BareClause.{BareClause}
use Rattle.star_grammar.specs.declared.bare_expressions.BareExpr as e
use Rattle.star_grammar.specs.declared.bare_expressions.BareExpr.{BareExpr}
use Rattle.star_grammar.specs.declared.bare_expressions.BareName.{BareName}
use Rattle.star_grammar.specs.declared.bare_expressions.BarePair.{BarePair, roll-BarePair}
use Rattle.star_grammar.specs.declared.bare_expressions.BareParam as param
use Rattle.star_grammar.specs.declared.bare_expressions.BareParam.{BareParam}
use Rattle.star_grammar.specs.declared.bare_statements.BareLoadName.{BareLoadName}
use Rattle.star_grammar.specs.declared.bare_statements.BareStmt.{BareStmt}
use Rattle.star_grammar.specs.declared.bare_statements.BareStmtKind as st
use Rattle.star_trees.specs.declared.inside.Inside.{Inside}
use Rattle.star_grammar.specs.Orders.{are_args, are_params, is_place, is_target}
use Rattle.star_grammar.specs.Statements as t
use Rattle.star_grammar.specs.Statements.{Statements}
use Rattle.star_trees.specs.Surroundings.{in_branch, in_function, in_loop}

-- conditions on trees of each type, each at a depth, and on statements at what stands round them
pub record Conditions : Type 1 where
  pub expr : ℕ → BareExpr → Type 0
  pub arg : ℕ → BareArg → Type 0
  pub clause : ℕ → BareClause → Type 0
  pub param : ℕ → BareParam → Type 0
  pub pair : ℕ → BarePair → Type 0
  pub stmt : Inside → ℕ → BareStmt → Type 0

-- clauses that begin with a `for`
pub data ForFirst : List BareClause → Type 0 where
  for_first : {to over : BareExpr} {more : List BareClause} → ForFirst (clause.For to over ∷ more)

-- each production of an expression keeps the conditions
pub record ExpressionsKeep (holds : Conditions) : Type 0 where
  pub deeper_expr : (n m : ℕ) (tree : BareExpr) → n ≤ m → holds.expr n tree → holds.expr m tree
  pub deeper_arg : (n m : ℕ) (tree : BareArg) → n ≤ m → holds.arg n tree → holds.arg m tree
  pub deeper_clause : (n m : ℕ) (tree : BareClause)
      → n ≤ m
      → holds.clause n tree
      → holds.clause m tree
  pub deeper_param : (n m : ℕ) (tree : BareParam) → n ≤ m → holds.param n tree → holds.param m tree
  pub deeper_pair : (n m : ℕ) (tree : BarePair) → n ≤ m → holds.pair n tree → holds.pair m tree
  pub name : (name : BareName) → holds.expr 1 (e.Name name)
  pub int : (value : ℤ) → holds.expr 1 (e.Int value)
  pub text : (text : List ℕ) → holds.expr 1 (e.Text text)
  pub list : (n : ℕ) (items : List BareExpr)
      → All (holds.expr n) items
      → holds.expr (n + 1) (e.List items)
  pub tuple : (n : ℕ) (items : List BareExpr)
      → All (holds.expr n) items
      → holds.expr (n + 1) (e.Tuple items)
  pub dict : (n : ℕ) (pairs : List BarePair)
      → All (holds.pair n) pairs
      → holds.expr (n + 1) (e.Dict pairs)
  pub list_comp : (n : ℕ) (item : BareExpr) (clauses : List BareClause)
      → holds.expr n item
      → ForFirst clauses
      → All (holds.clause n) clauses
      → holds.expr (n + 1) (e.ListComp item clauses)
  pub dict_comp : (n : ℕ) (key value : BareExpr) (clauses : List BareClause)
      → holds.expr n key
      → holds.expr n value
      → ForFirst clauses
      → All (holds.clause n) clauses
      → holds.expr (n + 1) (e.DictComp key value clauses)
  pub bracketed : (n : ℕ) (inside : BareExpr)
      → holds.expr n inside
      → holds.expr (n + 1) (e.Bracketed inside)
  pub unary : (n : ℕ) (op : UnOp) (operand : BareExpr)
      → holds.expr n operand
      → holds.expr (n + 1) (e.Unary op operand)
  pub binary : (n : ℕ) (op : BinOp) (left right : BareExpr)
      → holds.expr n left
      → holds.expr n right
      → holds.expr (n + 1) (e.Binary op left right)
  pub cond : (n : ℕ) (test chosen other : BareExpr)
      → holds.expr n test
      → holds.expr n chosen
      → holds.expr n other
      → holds.expr (n + 1) (e.Cond test chosen other)
  pub lambda : (n : ℕ) (params : List BareParam) (body : BareExpr) (line : ℕ)
      → n < 128
      → are_params params ≡ true
      → All (holds.param n) params
      → holds.expr n body
      → holds.expr (n + 1) (e.Lambda params body line)
  pub attr : (n : ℕ) (container : BareExpr) (name : List ℕ)
      → holds.expr n container
      → holds.expr (n + 1) (e.Attr container name)
  pub index : (n : ℕ) (container at : BareExpr)
      → holds.expr n container
      → holds.expr n at
      → holds.expr (n + 1) (e.Index container at)
  pub slice : (n : ℕ) (container : BareExpr) (begin end step : Option BareExpr)
      → holds.expr n container
      → IfSome begin (holds.expr n)
      → IfSome end (holds.expr n)
      → IfSome step (holds.expr n)
      → holds.expr (n + 1) (e.Slice container begin end step)
  pub call : (n : ℕ) (function : BareExpr) (args : List BareArg)
      → holds.expr n function
      → are_args args ≡ true
      → All (holds.arg n) args
      → holds.expr (n + 1) (e.Call function args)
  pub positional : (n : ℕ) (value : BareExpr)
      → holds.expr n value
      → holds.arg n (arg.Positional value)
  pub named : (n : ℕ) (name : List ℕ) (value : BareExpr)
      → holds.expr n value
      → holds.arg n (arg.Named name value)
  pub star : (n : ℕ) (value : BareExpr) (line : ℕ)
      → holds.expr n value
      → holds.arg n (arg.Star value line)
  pub double_star : (n : ℕ) (value : BareExpr) (line : ℕ)
      → holds.expr n value
      → holds.arg n (arg.DoubleStar value line)
  pub for_clause : (n : ℕ) (to over : BareExpr)
      → is_target to ≡ true
      → holds.expr n to
      → holds.expr n over
      → holds.clause n (clause.For to over)
  pub if_clause : (n : ℕ) (test : BareExpr) → holds.expr n test → holds.clause n (clause.If test)
  pub required : (name : List ℕ) → holds.param 1 (param.Required name)
  pub optional : (n : ℕ) (name : List ℕ) (default : BareExpr)
      → holds.expr n default
      → holds.param n (param.Optional name default)
  pub bare : (line : ℕ) → holds.param 1 (param.Bare line)
  pub rest : (name : List ℕ) (line : ℕ) → holds.param 1 (param.Rest name line)
  pub keywords : (name : List ℕ) (line : ℕ) → holds.param 1 (param.Keywords name line)
  pub entry : (n : ℕ) (key value : BareExpr)
      → holds.expr n key
      → holds.expr n value
      → holds.pair n (roll-BarePair (record { key = key; value = value }))

-- each production of a statement keeps them
pub record StatementsKeep (holds : Conditions) : Type 0 where
  pub deeper_stmt : (inside : Inside) (n m : ℕ) (tree : BareStmt)
      → n ≤ m
      → holds.stmt inside n tree
      → holds.stmt inside m tree
  pub returned_nothing : (inside : Inside) (line : ℕ)
      → inside.function ≡ true
      → holds.stmt inside 1 (t.on_line line (st.Return None))
  pub returned : (inside : Inside) (line n : ℕ) (value : BareExpr)
      → inside.function ≡ true
      → holds.expr n value
      → holds.stmt inside (n + 1) (t.on_line line (st.Return (Some value)))
  pub breaks : (inside : Inside) (line : ℕ)
      → inside.looping ≡ true
      → holds.stmt inside 1 (t.on_line line st.Break)
  pub continues : (inside : Inside) (line : ℕ)
      → inside.looping ≡ true
      → holds.stmt inside 1 (t.on_line line st.Continue)
  pub passes : (inside : Inside) (line : ℕ) → holds.stmt inside 1 (t.on_line line st.Pass)
  pub loads : (inside : Inside) (line n : ℕ) (file : List ℕ) (names : List BareLoadName)
      → inside.top ≡ true
      → holds.stmt inside (n + 1) (t.on_line line (st.Load file names))
  pub assigned : (inside : Inside) (line n : ℕ) (to value : BareExpr)
      → is_target to ≡ true
      → holds.expr n to
      → holds.expr n value
      → holds.stmt inside (n + 1) (t.on_line line (st.Assign to value))
  pub changed : (inside : Inside) (line n : ℕ) (place : BareExpr) (op : BinOp) (value : BareExpr)
      → is_place place ≡ true
      → holds.expr n place
      → holds.expr n value
      → holds.stmt inside (n + 1) (t.on_line line (st.Augment place op value))
  pub valued : (inside : Inside) (line n : ℕ) (value : BareExpr)
      → holds.expr n value
      → holds.stmt inside (n + 1) (t.on_line line (st.Value value))
  pub def : (inside : Inside) (line n : ℕ) (name : BareName) (params : List BareParam)
      (body : List BareStmt)
      → n < 128
      → are_params params ≡ true
      → All (holds.param n) params
      → All (holds.stmt in_function n) body
      → holds.stmt inside (n + 1) (t.on_line line (st.Def name params body))
  pub branch : (inside : Inside) (line n : ℕ) (test : BareExpr) (chosen other : List BareStmt)
      → holds.expr n test
      → All (holds.stmt (in_branch inside) n) chosen
      → All (holds.stmt (in_branch inside) n) other
      → holds.stmt inside (n + 1) (t.on_line line (st.If test chosen other))
  pub loop : (inside : Inside) (line n : ℕ) (to over : BareExpr) (body : List BareStmt)
      → is_target to ≡ true
      → holds.expr n to
      → holds.expr n over
      → All (holds.stmt (in_loop inside) n) body
      → holds.stmt inside (n + 1) (t.on_line line (st.For to over body))
