-- Expressions, read: each reader for the rule of its name, with what nests as a parameter.
use Rattle.std.specs.Prelude.{◌≡◌, ℕ, zero, suc, max, Bool, true, false, ◌&&◌, ◌||◌, if◌then◌else◌}
use Rattle.std.specs.Prelude.{List, [], ◌∷◌, Option, Some, None, is_some}
use Rattle.star_trees.specs.declared.trees.BinOp.{BinOp}
use Rattle.star_trees.specs.declared.trees.BinOp.TheVariants as bin
use Rattle.star_trees.specs.declared.trees.UnOp.{UnOp}
use Rattle.star_grammar.specs.declared.symbols.Sign.{Sign}
use Rattle.star_grammar.specs.declared.symbols.Sign.TheVariants as s
use Rattle.star_grammar.specs.declared.symbols.Symbol.{Symbol}
use Rattle.star_grammar.specs.declared.symbols.SymbolKind.{SymbolKind}
use Rattle.star_grammar.specs.declared.symbols.SymbolKind.TheVariants as kind
use Rattle.star_grammar.specs.declared.bare_expressions.BareArg as arg_tree
use Rattle.star_grammar.specs.declared.bare_expressions.BareArg.{BareArg}
use Rattle.star_grammar.specs.declared.bare_expressions.BareClause as clause_tree
use Rattle.star_grammar.specs.declared.bare_expressions.BareClause.{BareClause}
use Rattle.star_grammar.specs.declared.bare_expressions.BareExpr as e
use Rattle.star_grammar.specs.declared.bare_expressions.BareExpr.{BareExpr}
use Rattle.star_grammar.specs.declared.bare_expressions.BarePair.{BarePair, roll-BarePair}
use Rattle.star_grammar.specs.declared.bare_expressions.BareParam as param_tree
use Rattle.star_grammar.specs.declared.bare_expressions.BareParam.{BareParam}
use Rattle.star_grammar.specs.declared.bare_expressions.Level.{Level}
use Rattle.star_grammar.specs.declared.bare_expressions.Level.TheVariants as level
use Rattle.star_grammar.specs.Expressions.{Tree, joined, bracketed}
use Rattle.star_grammar.specs.Operators as operators
use Rattle.star_grammar.specs.Operators.{operator}
use Rattle.star_grammar.specs.Orders.{are_args, are_params, is_target}
use Rattle.star_grammar.specs.Rules.{Deep, deep, front_line}
use Rattle.star_grammar.specs.Readers.{Reader, ◌>>=◌, ◌>>◌, pure, refuse, given, checked, sees}
use Rattle.star_grammar.specs.Readers.{behind, sees_word, front_of, goes_on, skip, eat, expect}
use Rattle.star_grammar.specs.Readers.{look, name, closed, turns, one, adds, more}

-- the rest of a tuple without brackets
unfoldable pub rest_of_expression : Reader Tree → Tree → Reader Tree
rest_of_expression item first = do
  items ← more s.Comma None item (one first)
  given (joined items)

unfoldable pub expression : Reader Tree → Reader Tree
expression item = do
  first ← item
  rest_of_expression item first

unfoldable pub vars : Reader Tree → Reader Tree
vars primary = do
  targets ← expression primary
  checked (is_target targets.0)
  pure targets

-- ---- parameters

-- behind `*`
unfoldable pub rest_param : ℕ → Reader (Deep BareParam)
rest_param line = λ i. if sees_word i then (do rest ← name; pure (param_tree.Rest rest line, 1)) i
    else Some ((param_tree.Bare line, 1), i)

unfoldable pub keywords_param : ℕ → Reader (Deep BareParam)
keywords_param line = do
  keywords ← name
  pure (param_tree.Keywords keywords line, 1)

unfoldable pub named_param : Reader Tree → Reader (Deep BareParam)
named_param test = do
  called ← name
  is_optional ← eat s.Assign
  if is_optional then (do default ← test; pure (param_tree.Optional called default.0, default.1))
      else pure (param_tree.Required called, 1)

unfoldable pub param : Reader Tree → Reader (Deep BareParam)
param test = λ i.
    if sees s.Star i then (skip >> rest_param (front_line i)) i
    else (if sees s.StarStar i then (skip >> keywords_param (front_line i)) i else named_param test
    i)

unfoldable pub more_params : Reader Tree
    → Option Sign
    → Deep (List BareParam)
    → Reader (Deep (List BareParam))
more_params test close = more s.Comma close (param test)

-- the parameters of a `lambda`, and its colon
unfoldable pub signature : Reader Tree → Reader (Deep (List BareParam))
signature test = do
  is_empty ← eat s.Colon
  if is_empty then pure ([], 0) else (do
    first ← param test
    params ← more_params test None (one first)
    expect s.Colon
    pure params)

-- the parameters of a `def`, and the bracket behind them
unfoldable pub listed_params : Reader Tree → Reader (Deep (List BareParam))
listed_params test = do
  is_empty ← eat s.RightRound
  if is_empty then pure ([], 0) else (do
    first ← param test
    params ← more_params test (Some s.RightRound) (one first)
    closed s.Comma s.RightRound
    pure params)

-- ---- arguments

-- a name and `=` come next
abbrev pub sees_argument_name : List Symbol → Bool
sees_argument_name i = sees_word i && sees s.Assign (behind i)

unfoldable pub named_arg : Reader Tree → Reader (Deep BareArg)
named_arg test = do
  called ← name
  expect s.Assign
  value ← test
  pure (arg_tree.Named called value.0, value.1)

unfoldable pub star_arg : Reader Tree → ℕ → Reader (Deep BareArg)
star_arg test line = do
  value ← test
  pure (arg_tree.Star value.0 line, value.1)

unfoldable pub double_star_arg : Reader Tree → ℕ → Reader (Deep BareArg)
double_star_arg test line = do
  value ← test
  pure (arg_tree.DoubleStar value.0 line, value.1)

unfoldable pub positional_arg : Reader Tree → Reader (Deep BareArg)
positional_arg test = do
  value ← test
  pure (arg_tree.Positional value.0, value.1)

unfoldable pub arg : Reader Tree → Reader (Deep BareArg)
arg test = λ i.
    if sees s.Star i then (skip >> star_arg test (front_line i)) i
    else (if sees s.StarStar i then (skip >> double_star_arg test (front_line i)) i
    else (if sees_argument_name i then named_arg test i else positional_arg test i))

unfoldable pub more_args : Reader Tree → Deep (List BareArg) → Reader (Deep (List BareArg))
more_args test = more s.Comma (Some s.RightRound) (arg test)

-- the arguments and the bracket behind them
unfoldable pub listed_args : Reader Tree → Reader (Deep (List BareArg))
listed_args test = do
  is_empty ← eat s.RightRound
  if is_empty then pure ([], 0) else (do
    first ← arg test
    args ← more_args test (one first)
    closed s.Comma s.RightRound
    pure args)

-- ---- what nests is a parameter

module _ (nested : Level → Reader Tree) where
  unfoldable pub for_clause : Reader (Deep BareClause)
  for_clause = do
    expect s.For
    to ← vars (nested level.Primary)
    expect s.In
    over ← nested level.Disjunction
    pure (clause_tree.For to.0 over.0, max to.1 over.1)

  unfoldable pub if_clause : Reader (Deep BareClause)
  if_clause = do
    expect s.If
    test ← nested level.Disjunction
    pure (clause_tree.If test.0, test.1)

  unfoldable pub any_clause : Reader (Deep BareClause)
  any_clause = λ i. if sees s.For i then for_clause i else if_clause i

  abbrev pub begins_clause : List Symbol → Bool
  begins_clause i = sees s.For i || sees s.If i

  unfoldable pub comp : Reader (Deep (List BareClause))
  comp = do
    first ← for_clause
    turns begins_clause (adds any_clause) (one first)

  -- ---- operands

  -- behind `[` and an item
  unfoldable pub list_comp : Tree → Reader Tree
  list_comp item = do
    clauses ← comp
    expect s.RightSquare
    given (deep (e.ListComp item.0 clauses.0) (max item.1 clauses.1))

  unfoldable pub list_of : Tree → Reader Tree
  list_of first = do
    items ← more s.Comma (Some s.RightSquare) (nested level.Test) (one first)
    closed s.Comma s.RightSquare
    given (deep (e.List items.0) items.1)

  -- behind `[`
  unfoldable pub square : Reader Tree
  square = do
    is_empty ← eat s.RightSquare
    if is_empty then given (deep (e.List []) 0) else (do
      first ← nested level.Test
      (λ i. if sees s.For i then list_comp first i else list_of first i))

  unfoldable pub entry : Reader (Deep BarePair)
  entry = do
    key ← nested level.Test
    expect s.Colon
    value ← nested level.Test
    pure (roll-BarePair (record { key = key.0; value = value.0 }), max key.1 value.1)

  -- behind `{`, a key and a value
  unfoldable pub dict_comp : Tree → Tree → Reader Tree
  dict_comp key value = do
    clauses ← comp
    expect s.RightCurly
    given (deep (e.DictComp key.0 value.0 clauses.0) (max (max key.1 value.1) clauses.1))

  unfoldable pub dict_of : Deep BarePair → Reader Tree
  dict_of first = do
    pairs ← more s.Comma (Some s.RightCurly) entry (one first)
    closed s.Comma s.RightCurly
    given (deep (e.Dict pairs.0) pairs.1)

  -- behind `{`
  unfoldable pub curly : Reader Tree
  curly = do
    is_empty ← eat s.RightCurly
    if is_empty then given (deep (e.Dict []) 0) else (do
      key ← nested level.Test
      expect s.Colon
      value ← nested level.Test
      (λ i. if sees s.For i then dict_comp key value i
          else dict_of (roll-BarePair (record { key = key.0; value = value.0 }), max key.1 value.1)
          i))

  -- behind `(` and an expression
  unfoldable pub round_of : Tree → Reader Tree
  round_of first = do
    items ← more s.Comma (Some s.RightRound) (nested level.Test) (one first)
    is_trailed ← eat s.Comma
    expect s.RightRound
    given (if is_trailed then deep (e.Tuple items.0) items.1 else bracketed items)

  -- behind `(`
  unfoldable pub round : Reader Tree
  round = do
    is_empty ← eat s.RightRound
    if is_empty then given (deep (e.Tuple []) 0) else (do
      first ← nested level.Test
      round_of first)

  abbrev pub atom_of : ℕ → SymbolKind → Option Tree
  atom_of line (kind.Name called) = Some (e.Name (record { name = called; line = line }), 1)
  atom_of line (kind.Int value) = Some (e.Int value, 1)
  atom_of line (kind.Text text) = Some (e.Text text, 1)
  atom_of line (kind.Sign what) = None

  unfoldable pub atom : Reader Tree
  atom [] = None
  atom (symbol ∷ i) = given (atom_of symbol.line symbol.kind) i

  unfoldable pub operand : Reader Tree
  operand = λ i.
      if sees s.LeftSquare i then (skip >> square) i
      else (if sees s.LeftCurly i then (skip >> curly) i
      else (if sees s.LeftRound i then (skip >> round) i else atom i))

  -- ---- suffixes

  unfoldable pub attr : Tree → Reader Tree
  attr of = do
    called ← name
    given (deep (e.Attr of.0 called) of.1)

  unfoldable pub call : Tree → Reader Tree
  call of = do
    args ← listed_args (nested level.Test)
    checked (are_args args.0)
    given (deep (e.Call of.0 args.0) (max of.1 args.1))

  unfoldable pub bound : Reader (Deep (Option BareExpr))
  bound = λ i.
      if sees s.Colon i || sees s.RightSquare i then Some ((None, 0), i)
      else (do bound ← nested level.Test; pure (Some bound.0, bound.1)) i

  unfoldable pub step : Reader (Deep (Option BareExpr))
  step = do
    is_there ← eat s.Colon
    if is_there then bound else pure (None, 0)

  -- from the colon on
  unfoldable pub slice : Tree → Deep (Option BareExpr) → Reader Tree
  slice of begin = do
    expect s.Colon
    end ← bound
    by ← step
    expect s.RightSquare
    given (deep (e.Slice of.0 begin.0 end.0 by.0) (max of.1 (max begin.1 (max end.1 by.1))))

  unfoldable pub index : Tree → Tree → Reader Tree
  index of first = do
    at ← rest_of_expression (nested level.Test) first
    expect s.RightSquare
    given (deep (e.Index of.0 at.0) (max of.1 at.1))

  unfoldable pub begun_subscript : Tree → Reader Tree
  begun_subscript of = do
    first ← nested level.Test
    (λ i. if sees s.Colon i then slice of (Some first.0, first.1) i else index of first i)

  -- behind `[`
  unfoldable pub subscript : Tree → Reader Tree
  subscript of = λ i. if sees s.Colon i then slice of (None, 0) i else begun_subscript of i

  unfoldable pub suffix : Tree → Reader Tree
  suffix of = λ i.
      if sees s.Dot i then (skip >> attr of) i
      else (if sees s.LeftRound i then (skip >> call of) i else (skip >> subscript of) i)

  abbrev pub begins_suffix : List Symbol → Bool
  begins_suffix i = sees s.Dot i || (sees s.LeftRound i || sees s.LeftSquare i)

  unfoldable pub primary : Reader Tree
  primary = do
    first ← operand
    turns begins_suffix suffix first

  -- ---- operators

  -- an operator before its operand
  unfoldable pub prefixed : UnOp → Reader Tree → Reader Tree
  prefixed op operand = do
    skip
    of ← operand
    given (deep (e.Unary op of.0) of.1)

  abbrev pub unary_by : Option UnOp → Reader Tree
  unary_by (Some op) = prefixed op (nested level.Unary)
  unary_by None = primary

  unfoldable pub unary : Reader Tree
  unary = λ i. unary_by (front_of operators.prefix i) i

  -- an operator and its right operand
  unfoldable pub operated : Reader Tree → BinOp → Tree → Reader Tree
  operated tighter op left = do
    skip
    right ← tighter
    given (deep (e.Binary op left.0 right.0) (max left.1 right.1))

  abbrev pub operation_by : Reader Tree → Option BinOp → Tree → Reader Tree
  operation_by tighter (Some op) left = operated tighter op left
  operation_by tighter None left = refuse

  abbrev pub operation : ℕ → Reader Tree → Tree → Reader Tree
  operation binary tighter left = λ i. operation_by tighter (front_of (operator binary) i) left i

  abbrev pub begins_operation : ℕ → List Symbol → Bool
  begins_operation binary i = is_some (front_of (operator binary) i)

  abbrev pub chain : ℕ → Reader Tree → Reader Tree
  chain binary tighter = do
    first ← tighter
    turns (begins_operation binary) (operation binary tighter) first

  unfoldable pub arithmetic : ℕ → Reader Tree
  arithmetic zero = unary
  arithmetic (suc binary) = chain binary (arithmetic binary)

  unfoldable pub outside : Tree → Reader Tree
  outside left = do
    skip
    operated (arithmetic 6) bin.NotWithin left

  abbrev pub compared_by : Tree → Option BinOp → Reader Tree
  compared_by left (Some op) = operated (arithmetic 6) op left
  compared_by left None = λ i. if sees s.Not i && sees s.In (behind i) then outside left i
      else Some (left, i)

  unfoldable pub comparison : Reader Tree
  comparison = do
    left ← arithmetic 6
    (λ i. compared_by left (front_of operators.comparison i) i)

  abbrev pub negation_by : Option UnOp → Reader Tree
  negation_by (Some op) = prefixed op (nested level.Negation)
  negation_by None = comparison

  unfoldable pub negation : Reader Tree
  negation = λ i. negation_by (front_of operators.negation i) i

  unfoldable pub conjunction : Reader Tree
  conjunction = chain 6 negation

  unfoldable pub disjunction : Reader Tree
  disjunction = chain 7 conjunction

  -- behind `if`
  unfoldable pub conditional : Tree → Reader Tree
  conditional chosen = do
    test ← disjunction
    expect s.Else
    other ← nested level.Test
    given (deep (e.Cond test.0 chosen.0 other.0) (max chosen.1 (max test.1 other.1)))

  unfoldable pub plain_test : Reader Tree
  plain_test = do
    first ← disjunction
    is_conditional ← eat s.If
    if is_conditional then conditional first else pure first

  -- behind `lambda`
  unfoldable pub lambda : ℕ → Reader Tree
  lambda line = do
    params ← signature (nested level.Test)
    checked (are_params params.0)
    body ← nested level.Test
    given (deep (e.Lambda params.0 body.0 line) (max params.1 body.1))

  unfoldable pub any_test : Reader Tree
  any_test = λ i. if sees s.Lambda i then (skip >> lambda (front_line i)) i else plain_test i

  abbrev pub at : Level → Reader Tree
  at level.Primary = primary
  at level.Unary = unary
  at level.Negation = negation
  at level.Disjunction = disjunction
  at level.Test = any_test

-- expressions in which so many constructs nest at most
unfoldable pub reads : ℕ → Level → Reader Tree
reads zero what = refuse
reads (suc nesting) what = at (reads nesting) what
