-- Which bare trees are targets and places, and at which stage their arguments and parameters are.
use Rattle.std.proofs.Common.{rules, ◌≡◌, ℕ, ℤ, false, List, map, Option}
use Rattle.star_trees.specs.declared.trees.BinOp.{BinOp}
use Rattle.star_trees.specs.declared.trees.UnOp.{UnOp}
use Rattle.star_grammar.specs.declared.bare_expressions.BareArg as arg
use Rattle.star_grammar.specs.declared.bare_expressions.BareArg.{BareArg, out-BareArg}
use Rattle.star_grammar.specs.declared.bare_expressions.BareArg.TheOpen.{BareArg-F, BareClause-F}
use Rattle.star_grammar.specs.declared.bare_expressions.BareArg.TheOpen.{BareParam-F}
use Rattle.star_grammar.specs.declared.bare_expressions.BareClause as clause
use Rattle.star_grammar.specs.declared.bare_expressions.BareClause.{BareClause, out-BareClause}
use Rattle.star_grammar.specs.declared.bare_expressions.BareExpr as e
use Rattle.star_grammar.specs.declared.bare_expressions.BareExpr.{BareExpr, the_lemmas}
use Rattle.star_grammar.specs.declared.bare_expressions.BarePair.{BarePair}
use Rattle.star_grammar.specs.declared.bare_expressions.BareParam as param
use Rattle.star_grammar.specs.declared.bare_expressions.BareParam.{BareParam, out-BareParam}
use Rattle.star_grammar.specs.Orders.{is_place, is_target}
use Rattle.star_trees.specs.Lists.{some_and_all}

pub is_place-Int : (value : ℤ) → is_place (e.Int value) ≡ false
unfolding is_place
is_place-Int value = search (rules, the_lemmas)

pub is_place-Text : (text : List ℕ) → is_place (e.Text text) ≡ false
unfolding is_place
is_place-Text text = search (rules, the_lemmas)

pub is_place-Dict : (pairs : List BarePair) → is_place (e.Dict pairs) ≡ false
unfolding is_place
is_place-Dict pairs = search (rules, the_lemmas)

pub is_place-ListComp : (item : BareExpr) (clauses : List BareClause)
    → is_place (e.ListComp item clauses) ≡ false
unfolding is_place
is_place-ListComp item clauses = search (rules, the_lemmas)

pub is_place-DictComp : (key value : BareExpr) (clauses : List BareClause)
    → is_place (e.DictComp key value clauses) ≡ false
unfolding is_place
is_place-DictComp key value clauses = search (rules, the_lemmas)

pub is_place-Unary : (op : UnOp) (operand : BareExpr) → is_place (e.Unary op operand) ≡ false
unfolding is_place
is_place-Unary op operand = search (rules, the_lemmas)

pub is_place-Binary : (op : BinOp) (left right : BareExpr)
    → is_place (e.Binary op left right) ≡ false
unfolding is_place
is_place-Binary op left right = search (rules, the_lemmas)

pub is_place-Cond : (test chosen other : BareExpr) → is_place (e.Cond test chosen other) ≡ false
unfolding is_place
is_place-Cond test chosen other = search (rules, the_lemmas)

pub is_place-Lambda : (params : List BareParam) (body : BareExpr) (line : ℕ)
    → is_place (e.Lambda params body line) ≡ false
unfolding is_place
is_place-Lambda params body line = search (rules, the_lemmas)

pub is_place-Attr : (container : BareExpr) (name : List ℕ)
    → is_place (e.Attr container name) ≡ false
unfolding is_place
is_place-Attr container name = search (rules, the_lemmas)

pub is_place-Slice : (container : BareExpr) (begin end step : Option BareExpr)
    → is_place (e.Slice container begin end step) ≡ false
unfolding is_place
is_place-Slice container begin end step = search (rules, the_lemmas)

pub is_place-Call : (function : BareExpr) (args : List BareArg)
    → is_place (e.Call function args) ≡ false
unfolding is_place
is_place-Call function args = search (rules, the_lemmas)

pub is_place-List : (items : List BareExpr) → is_place (e.List items) ≡ false
unfolding is_place
is_place-List items = search (rules, the_lemmas)

pub is_place-Tuple : (items : List BareExpr) → is_place (e.Tuple items) ≡ false
unfolding is_place
is_place-Tuple items = search (rules, the_lemmas)

pub is_place-Bracketed : (inside : BareExpr) → is_place (e.Bracketed inside) ≡ false
unfolding is_place
is_place-Bracketed inside = search (rules, the_lemmas)

pub is_target-Int : (value : ℤ) → is_target (e.Int value) ≡ false
is_target-Int value = search (rules, the_lemmas)

pub is_target-Text : (text : List ℕ) → is_target (e.Text text) ≡ false
is_target-Text text = search (rules, the_lemmas)

pub is_target-Dict : (pairs : List BarePair) → is_target (e.Dict pairs) ≡ false
is_target-Dict pairs = search (rules, the_lemmas)

pub is_target-ListComp : (item : BareExpr) (clauses : List BareClause)
    → is_target (e.ListComp item clauses) ≡ false
is_target-ListComp item clauses = search (rules, the_lemmas)

pub is_target-DictComp : (key value : BareExpr) (clauses : List BareClause)
    → is_target (e.DictComp key value clauses) ≡ false
is_target-DictComp key value clauses = search (rules, the_lemmas)

pub is_target-Unary : (op : UnOp) (operand : BareExpr) → is_target (e.Unary op operand) ≡ false
is_target-Unary op operand = search (rules, the_lemmas)

pub is_target-Binary : (op : BinOp) (left right : BareExpr)
    → is_target (e.Binary op left right) ≡ false
is_target-Binary op left right = search (rules, the_lemmas)

pub is_target-Cond : (test chosen other : BareExpr) → is_target (e.Cond test chosen other) ≡ false
is_target-Cond test chosen other = search (rules, the_lemmas)

pub is_target-Lambda : (params : List BareParam) (body : BareExpr) (line : ℕ)
    → is_target (e.Lambda params body line) ≡ false
is_target-Lambda params body line = search (rules, the_lemmas)

pub is_target-Attr : (container : BareExpr) (name : List ℕ)
    → is_target (e.Attr container name) ≡ false
is_target-Attr container name = search (rules, the_lemmas)

pub is_target-Slice : (container : BareExpr) (begin end step : Option BareExpr)
    → is_target (e.Slice container begin end step) ≡ false
is_target-Slice container begin end step = search (rules, the_lemmas)

pub is_target-Call : (function : BareExpr) (args : List BareArg)
    → is_target (e.Call function args) ≡ false
is_target-Call function args = search (rules, the_lemmas)

pub is_target-List : (items : List BareExpr)
    → is_target (e.List items) ≡ some_and_all (map is_target items)
is_target-List items = search (rules, the_lemmas)

pub is_target-Tuple : (items : List BareExpr)
    → is_target (e.Tuple items) ≡ some_and_all (map is_target items)
is_target-Tuple items = search (rules, the_lemmas)

pub is_target-Bracketed : (inside : BareExpr) → is_target (e.Bracketed inside) ≡ is_target inside
is_target-Bracketed inside = search (rules, the_lemmas)

pub out-Positional : (value : BareExpr)
    → out-BareArg (arg.Positional value) ≡ BareArg-F.Positional value
out-Positional value = search (rules, the_lemmas)

pub out-Named : (name : List ℕ) (value : BareExpr)
    → out-BareArg (arg.Named name value) ≡ BareArg-F.Named name value
out-Named name value = search (rules, the_lemmas)

pub out-Star : (value : BareExpr) (line : ℕ)
    → out-BareArg (arg.Star value line) ≡ BareArg-F.Star value line
out-Star value line = search (rules, the_lemmas)

pub out-DoubleStar : (value : BareExpr) (line : ℕ)
    → out-BareArg (arg.DoubleStar value line) ≡ BareArg-F.DoubleStar value line
out-DoubleStar value line = search (rules, the_lemmas)

pub out-Required : (name : List ℕ) → out-BareParam (param.Required name) ≡ BareParam-F.Required name
out-Required name = search (rules, the_lemmas)

pub out-Optional : (name : List ℕ) (default : BareExpr)
    → out-BareParam (param.Optional name default) ≡ BareParam-F.Optional name default
out-Optional name default = search (rules, the_lemmas)

pub out-Bare : (line : ℕ) → out-BareParam (param.Bare line) ≡ BareParam-F.Bare line
out-Bare line = search (rules, the_lemmas)

pub out-Rest : (name : List ℕ) (line : ℕ)
    → out-BareParam (param.Rest name line) ≡ BareParam-F.Rest name line
out-Rest name line = search (rules, the_lemmas)

pub out-Keywords : (name : List ℕ) (line : ℕ)
    → out-BareParam (param.Keywords name line) ≡ BareParam-F.Keywords name line
out-Keywords name line = search (rules, the_lemmas)

pub out-For : (to over : BareExpr) → out-BareClause (clause.For to over) ≡ BareClause-F.For to over
out-For to over = search (rules, the_lemmas)

pub out-If : (test : BareExpr) → out-BareClause (clause.If test) ≡ BareClause-F.If test
out-If test = search (rules, the_lemmas)
