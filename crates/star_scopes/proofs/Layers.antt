-- What a tree of each construct means, by what its parts mean.
use Rattle.std.proofs.Common.{rules, ◌≡◌, ℕ, ℤ, List, map, Option, option_map}
use Rattle.star_trees.specs.declared.trees.BinOp.{BinOp}
use Rattle.star_trees.specs.declared.trees.UnOp.{UnOp}
use Rattle.star_grammar.specs.declared.bare_expressions.BareArg as arg
use Rattle.star_grammar.specs.declared.bare_expressions.BareArg.{BareArg}
use Rattle.star_grammar.specs.declared.bare_expressions.BareArg.TheOpen.{BareArg-F, BareClause-F}
use Rattle.star_grammar.specs.declared.bare_expressions.BareArg.TheOpen.{BareExpr-F, BareParam-F}
use Rattle.star_grammar.specs.declared.bare_expressions.BareClause as clause
use Rattle.star_grammar.specs.declared.bare_expressions.BareClause.{BareClause}
use Rattle.star_grammar.specs.declared.bare_expressions.BareExpr as e
use Rattle.star_grammar.specs.declared.bare_expressions.BareExpr.{BareExpr, the_lemmas}
use Rattle.star_grammar.specs.declared.bare_expressions.BareName.{BareName}
use Rattle.star_grammar.specs.declared.bare_expressions.BarePair.{BarePair, out-BarePair}
use Rattle.star_grammar.specs.declared.bare_expressions.BareParam as param
use Rattle.star_grammar.specs.declared.bare_expressions.BareParam.{BareParam}
use Rattle.star_scopes.specs.ExprMeaning.{arg_meaning, arg_step, clause_meaning, clause_step}
use Rattle.star_scopes.specs.ExprMeaning.{expr_step, meaning, pair_meaning, pair_step}
use Rattle.star_scopes.specs.ExprMeaning.{param_meaning, param_step}

pub meaning-Name : (name : BareName) → meaning (e.Name name) ≡ expr_step (BareExpr-F.Name name)
unfolding meaning arg_meaning clause_meaning param_meaning pair_meaning
meaning-Name name = search (rules, the_lemmas)

pub meaning-Int : (value : ℤ) → meaning (e.Int value) ≡ expr_step (BareExpr-F.Int value)
unfolding meaning arg_meaning clause_meaning param_meaning pair_meaning
meaning-Int value = search (rules, the_lemmas)

pub meaning-Text : (text : List ℕ) → meaning (e.Text text) ≡ expr_step (BareExpr-F.Text text)
unfolding meaning arg_meaning clause_meaning param_meaning pair_meaning
meaning-Text text = search (rules, the_lemmas)

pub meaning-List : (items : List BareExpr)
    → meaning (e.List items) ≡ expr_step (BareExpr-F.List (map meaning items))
unfolding meaning arg_meaning clause_meaning param_meaning pair_meaning
meaning-List items = search (rules, the_lemmas)

pub meaning-Tuple : (items : List BareExpr)
    → meaning (e.Tuple items) ≡ expr_step (BareExpr-F.Tuple (map meaning items))
unfolding meaning arg_meaning clause_meaning param_meaning pair_meaning
meaning-Tuple items = search (rules, the_lemmas)

pub meaning-Dict : (pairs : List BarePair)
    → meaning (e.Dict pairs) ≡ expr_step (BareExpr-F.Dict (map pair_meaning pairs))
unfolding meaning arg_meaning clause_meaning param_meaning pair_meaning
meaning-Dict pairs = search (rules, the_lemmas)

pub meaning-ListComp : (item : BareExpr)
    → (clauses : List BareClause)
    → meaning (e.ListComp item clauses)
    ≡ expr_step (BareExpr-F.ListComp (meaning item) (map clause_meaning clauses))
unfolding meaning arg_meaning clause_meaning param_meaning pair_meaning
meaning-ListComp item clauses = search (rules, the_lemmas)

pub meaning-DictComp : (key : BareExpr)
    → (value : BareExpr)
    → (clauses : List BareClause)
    → meaning (e.DictComp key value clauses)
    ≡ expr_step (BareExpr-F.DictComp (meaning key) (meaning value) (map clause_meaning clauses))
unfolding meaning arg_meaning clause_meaning param_meaning pair_meaning
meaning-DictComp key value clauses = search (rules, the_lemmas)

pub meaning-Bracketed : (inside : BareExpr)
    → meaning (e.Bracketed inside) ≡ expr_step (BareExpr-F.Bracketed (meaning inside))
unfolding meaning arg_meaning clause_meaning param_meaning pair_meaning
meaning-Bracketed inside = search (rules, the_lemmas)

pub meaning-Unary : (op : UnOp)
    → (operand : BareExpr)
    → meaning (e.Unary op operand) ≡ expr_step (BareExpr-F.Unary op (meaning operand))
unfolding meaning arg_meaning clause_meaning param_meaning pair_meaning
meaning-Unary op operand = search (rules, the_lemmas)

pub meaning-Binary : (op : BinOp)
    → (left : BareExpr)
    → (right : BareExpr)
    → meaning (e.Binary op left right)
    ≡ expr_step (BareExpr-F.Binary op (meaning left) (meaning right))
unfolding meaning arg_meaning clause_meaning param_meaning pair_meaning
meaning-Binary op left right = search (rules, the_lemmas)

pub meaning-Cond : (test : BareExpr)
    → (chosen : BareExpr)
    → (other : BareExpr)
    → meaning (e.Cond test chosen other)
    ≡ expr_step (BareExpr-F.Cond (meaning test) (meaning chosen) (meaning other))
unfolding meaning arg_meaning clause_meaning param_meaning pair_meaning
meaning-Cond test chosen other = search (rules, the_lemmas)

pub meaning-Lambda : (params : List BareParam)
    → (inside : BareExpr)
    → (line : ℕ)
    → meaning (e.Lambda params inside line)
    ≡ expr_step (BareExpr-F.Lambda (map param_meaning params) (meaning inside) line)
unfolding meaning arg_meaning clause_meaning param_meaning pair_meaning
meaning-Lambda params inside line = search (rules, the_lemmas)

pub meaning-Attr : (container : BareExpr)
    → (name : List ℕ)
    → meaning (e.Attr container name) ≡ expr_step (BareExpr-F.Attr (meaning container) name)
unfolding meaning arg_meaning clause_meaning param_meaning pair_meaning
meaning-Attr container name = search (rules, the_lemmas)

pub meaning-Index : (container : BareExpr)
    → (at : BareExpr)
    → meaning (e.Index container at) ≡ expr_step (BareExpr-F.Index (meaning container) (meaning at))
unfolding meaning arg_meaning clause_meaning param_meaning pair_meaning
meaning-Index container at = search (rules, the_lemmas)

pub meaning-Slice : (container : BareExpr)
    → (begin : Option BareExpr)
    → (end : Option BareExpr)
    → (step : Option BareExpr)
    → meaning (e.Slice container begin end step)
    ≡ expr_step (BareExpr-F.Slice (meaning container) (option_map meaning begin) (option_map
    meaning end) (option_map meaning step))
unfolding meaning arg_meaning clause_meaning param_meaning pair_meaning
meaning-Slice container begin end step = search (rules, the_lemmas)

pub meaning-Call : (function : BareExpr)
    → (args : List BareArg)
    → meaning (e.Call function args)
    ≡ expr_step (BareExpr-F.Call (meaning function) (map arg_meaning args))
unfolding meaning arg_meaning clause_meaning param_meaning pair_meaning
meaning-Call function args = search (rules, the_lemmas)

pub arg_meaning-Positional : (value : BareExpr)
    → arg_meaning (arg.Positional value) ≡ arg_step (BareArg-F.Positional (meaning value))
unfolding meaning arg_meaning clause_meaning param_meaning pair_meaning
arg_meaning-Positional value = search (rules, the_lemmas)

pub arg_meaning-Named : (name : List ℕ)
    → (value : BareExpr)
    → arg_meaning (arg.Named name value) ≡ arg_step (BareArg-F.Named name (meaning value))
unfolding meaning arg_meaning clause_meaning param_meaning pair_meaning
arg_meaning-Named name value = search (rules, the_lemmas)

pub arg_meaning-Star : (value : BareExpr)
    → (line : ℕ)
    → arg_meaning (arg.Star value line) ≡ arg_step (BareArg-F.Star (meaning value) line)
unfolding meaning arg_meaning clause_meaning param_meaning pair_meaning
arg_meaning-Star value line = search (rules, the_lemmas)

pub arg_meaning-DoubleStar : (value : BareExpr)
    → (line : ℕ)
    → arg_meaning (arg.DoubleStar value line) ≡ arg_step (BareArg-F.DoubleStar (meaning value) line)
unfolding meaning arg_meaning clause_meaning param_meaning pair_meaning
arg_meaning-DoubleStar value line = search (rules, the_lemmas)

pub clause_meaning-For : (to : BareExpr)
    → (over : BareExpr)
    → clause_meaning (clause.For to over)
    ≡ clause_step (BareClause-F.For (meaning to) (meaning over))
unfolding meaning arg_meaning clause_meaning param_meaning pair_meaning
clause_meaning-For to over = search (rules, the_lemmas)

pub clause_meaning-If : (test : BareExpr)
    → clause_meaning (clause.If test) ≡ clause_step (BareClause-F.If (meaning test))
unfolding meaning arg_meaning clause_meaning param_meaning pair_meaning
clause_meaning-If test = search (rules, the_lemmas)

pub param_meaning-Required : (name : List ℕ)
    → param_meaning (param.Required name) ≡ param_step (BareParam-F.Required name)
unfolding meaning arg_meaning clause_meaning param_meaning pair_meaning
param_meaning-Required name = search (rules, the_lemmas)

pub param_meaning-Optional : (name : List ℕ)
    → (default : BareExpr)
    → param_meaning (param.Optional name default)
    ≡ param_step (BareParam-F.Optional name (meaning default))
unfolding meaning arg_meaning clause_meaning param_meaning pair_meaning
param_meaning-Optional name default = search (rules, the_lemmas)

pub param_meaning-Bare : (line : ℕ)
    → param_meaning (param.Bare line) ≡ param_step (BareParam-F.Bare line)
unfolding meaning arg_meaning clause_meaning param_meaning pair_meaning
param_meaning-Bare line = search (rules, the_lemmas)

pub param_meaning-Rest : (name : List ℕ)
    → (line : ℕ)
    → param_meaning (param.Rest name line) ≡ param_step (BareParam-F.Rest name line)
unfolding meaning arg_meaning clause_meaning param_meaning pair_meaning
param_meaning-Rest name line = search (rules, the_lemmas)

pub param_meaning-Keywords : (name : List ℕ)
    → (line : ℕ)
    → param_meaning (param.Keywords name line) ≡ param_step (BareParam-F.Keywords name line)
unfolding meaning arg_meaning clause_meaning param_meaning pair_meaning
param_meaning-Keywords name line = search (rules, the_lemmas)

pub pair_meaning-out : (pair : BarePair)
    → pair_meaning pair ≡ pair_step (record {
      key = meaning (out-BarePair pair).key;
      value = meaning
          (out-BarePair pair).value;
    })
unfolding meaning arg_meaning clause_meaning param_meaning pair_meaning
pair_meaning-out pair = search (rules, the_lemmas)

pub ruleset part_layers = (
  arg_meaning-Positional,
  arg_meaning-Named,
  arg_meaning-Star,
  arg_meaning-DoubleStar,
  clause_meaning-For,
  clause_meaning-If,
  param_meaning-Required,
  param_meaning-Optional,
  param_meaning-Bare,
  param_meaning-Rest,
  param_meaning-Keywords,
  pair_meaning-out,
)
