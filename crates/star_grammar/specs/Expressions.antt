-- The grammar of expressions: the Starlark specification, "Expressions". Each constructor is a
-- production; what nests is read by the rules of one nesting less.
use Rattle.std.specs.Prelude.{◌≡◌, ℕ, zero, suc, ◌+◌, max, true, ℤ, List, [], ◌∷◌, ◌++◌, Option}
use Rattle.std.specs.Prelude.{Some, None}
use Rattle.star_trees.specs.declared.trees.BinOp.{BinOp}
use Rattle.star_trees.specs.declared.trees.BinOp.TheVariants as bin
use Rattle.star_trees.specs.declared.trees.UnOp.{UnOp}
use Rattle.star_grammar.specs.declared.symbols.Sign.{Sign}
use Rattle.star_grammar.specs.declared.symbols.Sign.TheVariants as s
use Rattle.star_grammar.specs.declared.symbols.Symbol.{Symbol}
use Rattle.star_grammar.specs.declared.symbols.SymbolKind.TheVariants as kind
use Rattle.star_grammar.specs.declared.bare_expressions.BareArg as arg
use Rattle.star_grammar.specs.declared.bare_expressions.BareArg.{BareArg}
use Rattle.star_grammar.specs.declared.bare_expressions.BareClause as clause
use Rattle.star_grammar.specs.declared.bare_expressions.BareClause.{BareClause}
use Rattle.star_grammar.specs.declared.bare_expressions.BareExpr as e
use Rattle.star_grammar.specs.declared.bare_expressions.BareExpr.{BareExpr}
use Rattle.star_grammar.specs.declared.bare_expressions.BarePair.{BarePair, roll-BarePair}
use Rattle.star_grammar.specs.declared.bare_expressions.BareParam as param
use Rattle.star_grammar.specs.declared.bare_expressions.BareParam.{BareParam}
use Rattle.star_grammar.specs.declared.bare_expressions.Level.{Level}
use Rattle.star_grammar.specs.declared.bare_expressions.Level.TheVariants as level
use Rattle.star_grammar.specs.Operators.{operator, comparison, prefix, negation}
use Rattle.star_grammar.specs.Orders.{are_args, are_params, is_target}
use Rattle.star_grammar.specs.Rules.{Rule, sign, word, string, Deep, deep, Repeated, One, Adds}
use Rattle.star_grammar.specs.Rules.{After, Series, Closed, Listed}

abbrev pub Tree : Type 0
Tree = Deep BareExpr

-- one expression is itself, several without brackets are a tuple
abbrev pub joined : Deep (List BareExpr) → Option Tree
joined ((one ∷ []), depth) = Some (one, depth)
joined (items, depth) = deep (e.Tuple items) depth

-- one expression in round brackets is bracketed, several are a tuple
abbrev pub bracketed : Deep (List BareExpr) → Option Tree
bracketed ((one ∷ []), depth) = deep (e.Bracketed one) depth
bracketed (items, depth) = deep (e.Tuple items) depth

-- Expression = Test {',' Test}
pub data Expression (test : Rule Tree) : List Symbol → Tree → List Symbol → Type 0 where
  listed : {i r : List Symbol} {items : Deep (List BareExpr)} {a : Tree}
      → Series s.Comma test i items r
      → joined items ≡ Some a
      → Expression test i a r

-- Vars = Target {',' Target}, where a Target is a Primary of a target's form
pub data Vars (primary : Rule Tree) : List Symbol → Tree → List Symbol → Type 0 where
  targets : {i r : List Symbol} {a : Tree}
      → Expression primary i a r
      → is_target a.0 ≡ true
      → Vars primary i a r

-- Param = identifier | identifier '=' Test | '*' | '*' identifier | '**' identifier
pub data Param (test : Rule Tree) : List Symbol → Deep BareParam → List Symbol → Type 0 where
  required : {r : List Symbol} {name : List ℕ} {l : ℕ}
      → Param test (word name l ∷ r) (param.Required name, 1) r
  optional : {i r : List Symbol} {name : List ℕ} {l m : ℕ} {a : Tree}
      → test i a r
      → Param test (word name l ∷ sign s.Assign m ∷ i) (param.Optional name a.0, a.1) r
  bare : {r : List Symbol} {l : ℕ} → Param test (sign s.Star l ∷ r) (param.Bare l, 1) r
  rest : {r : List Symbol} {name : List ℕ} {l m : ℕ}
      → Param test (sign s.Star l ∷ word name m ∷ r) (param.Rest name l, 1) r
  keywords : {r : List Symbol} {name : List ℕ} {l m : ℕ}
      → Param test (sign s.StarStar l ∷ word name m ∷ r) (param.Keywords name l, 1) r

-- [Param {',' Param}] ':'
pub data Signature (test : Rule Tree) : List Symbol
    → Deep (List BareParam)
    → List Symbol
    → Type 0 where
  none : {r : List Symbol} {l : ℕ} → Signature test (sign s.Colon l ∷ r) ([], 0) r
  some : {i r : List Symbol} {params : Deep (List BareParam)} {l : ℕ}
      → Series s.Comma (Param test) i params (sign s.Colon l ∷ r)
      → Signature test i params r

-- Arg = Test | identifier '=' Test | '*' Test | '**' Test
pub data Arg (test : Rule Tree) : List Symbol → Deep BareArg → List Symbol → Type 0 where
  positional : {i r : List Symbol} {a : Tree} → test i a r → Arg test i (arg.Positional a.0, a.1) r
  named : {i r : List Symbol} {name : List ℕ} {l m : ℕ} {a : Tree}
      → test i a r
      → Arg test (word name l ∷ sign s.Assign m ∷ i) (arg.Named name a.0, a.1) r
  star : {i r : List Symbol} {l : ℕ} {a : Tree}
      → test i a r
      → Arg test (sign s.Star l ∷ i) (arg.Star a.0 l, a.1) r
  double_star : {i r : List Symbol} {l : ℕ} {a : Tree}
      → test i a r
      → Arg test (sign s.StarStar l ∷ i) (arg.DoubleStar a.0 l, a.1) r

-- Entry = Test ':' Test
pub data Entry (test : Rule Tree) : List Symbol → Deep BarePair → List Symbol → Type 0 where
  entry : {i j r : List Symbol} {l : ℕ} {key value : Tree}
      → test i key (sign s.Colon l ∷ j)
      → test j value r
      → Entry test i (roll-BarePair (record { key = key.0; value = value.0 }), max key.1 value.1) r

-- 'for' Vars 'in' Or
pub data ForClause (nested : Level → Rule Tree) : List Symbol
    → Deep BareClause
    → List Symbol
    → Type 0 where
  loop : {i j r : List Symbol} {l m : ℕ} {to over : Tree}
      → Vars (nested level.Primary) i to (sign s.In m ∷ j)
      → nested level.Disjunction j over r
      → ForClause nested (sign s.For l ∷ i) (clause.For to.0 over.0, max to.1 over.1) r

-- 'for' Vars 'in' Or | 'if' Or
pub data AnyClause (nested : Level → Rule Tree) : List Symbol
    → Deep BareClause
    → List Symbol
    → Type 0 where
  loop : {i r : List Symbol} {a : Deep BareClause} → ForClause nested i a r → AnyClause nested i a r
  test : {i r : List Symbol} {l : ℕ} {a : Tree}
      → nested level.Disjunction i a r
      → AnyClause nested (sign s.If l ∷ i) (clause.If a.0, a.1) r

-- Comp = 'for' Vars 'in' Or {'for' Vars 'in' Or | 'if' Or}
abbrev pub Comp : (Level → Rule Tree) → Rule (Deep (List BareClause))
Comp nested = Repeated (One (ForClause nested)) (Adds (AnyClause nested))

-- Operand = identifier | integer | string | '[' [Expression | Test Comp] ']' | '{' [Entry {','
-- Entry} [','] | Entry Comp] '}' | '(' [Expression] ')'
pub data Operand (nested : Level → Rule Tree) : List Symbol → Tree → List Symbol → Type 0 where
  name : {r : List Symbol} {name : List ℕ} {l : ℕ}
      → Operand nested (word name l ∷ r) (e.Name (record { name = name; line = l }), 1) r
  integer : {r : List Symbol} {value : ℤ} {l : ℕ}
      → Operand nested (record { kind = kind.Int value; line = l } ∷ r) (e.Int value, 1) r
  text : {r : List Symbol} {text : List ℕ} {l : ℕ}
      → Operand nested (string text l ∷ r) (e.Text text, 1) r
  list : {i r : List Symbol} {l : ℕ} {items : Deep (List BareExpr)} {a : Tree}
      → Listed s.RightSquare (nested level.Test) i items r
      → deep (e.List items.0) items.1 ≡ Some a
      → Operand nested (sign s.LeftSquare l ∷ i) a r
  list_comp : {i j r : List Symbol} {l m : ℕ} {item a : Tree} {clauses : Deep (List BareClause)}
      → nested level.Test i item j
      → Comp nested j clauses (sign s.RightSquare m ∷ r)
      → deep (e.ListComp item.0 clauses.0) (max item.1 clauses.1) ≡ Some a
      → Operand nested (sign s.LeftSquare l ∷ i) a r
  dict : {i r : List Symbol} {l : ℕ} {pairs : Deep (List BarePair)} {a : Tree}
      → Listed s.RightCurly (Entry (nested level.Test)) i pairs r
      → deep (e.Dict pairs.0) pairs.1 ≡ Some a
      → Operand nested (sign s.LeftCurly l ∷ i) a r
  dict_comp : {i j k r : List Symbol} {l m n : ℕ} {key value a : Tree} {clauses : Deep
      (List BareClause)}
      → nested level.Test i key (sign s.Colon m ∷ j)
      → nested level.Test j value k
      → Comp nested k clauses (sign s.RightCurly n ∷ r)
      → deep (e.DictComp key.0 value.0 clauses.0) (max (max key.1 value.1) clauses.1) ≡ Some a
      → Operand nested (sign s.LeftCurly l ∷ i) a r
  empty : {r : List Symbol} {l m : ℕ} {a : Tree}
      → deep (e.Tuple []) 0 ≡ Some a
      → Operand nested (sign s.LeftRound l ∷ sign s.RightRound m ∷ r) a r
  round : {i r : List Symbol} {l m : ℕ} {items : Deep (List BareExpr)} {a : Tree}
      → Series s.Comma (nested level.Test) i items (sign s.RightRound m ∷ r)
      → bracketed items ≡ Some a
      → Operand nested (sign s.LeftRound l ∷ i) a r
  tuple : {i r : List Symbol} {l m n : ℕ} {items : Deep (List BareExpr)} {a : Tree}
      → Series s.Comma (nested level.Test) i items (sign s.Comma m ∷ sign s.RightRound n ∷ r)
      → deep (e.Tuple items.0) items.1 ≡ Some a
      → Operand nested (sign s.LeftRound l ∷ i) a r

-- [Test]
pub data Bound (test : Rule Tree) : List Symbol
    → Deep (Option BareExpr)
    → List Symbol
    → Type 0 where
  absent : {i : List Symbol} → Bound test i (None, 0) i
  present : {i r : List Symbol} {a : Tree} → test i a r → Bound test i (Some a.0, a.1) r

-- [':' [Test]]
pub data Step (test : Rule Tree) : List Symbol → Deep (Option BareExpr) → List Symbol → Type 0 where
  absent : {i : List Symbol} → Step test i (None, 0) i
  present : {i r : List Symbol} {l : ℕ} {a : Deep (Option BareExpr)}
      → Bound test i a r
      → Step test (sign s.Colon l ∷ i) a r

-- '.' identifier | '(' [Arg {',' Arg} [',']] ')' | '[' Expression ']' | '[' [Test] ':' [Test] [':'
-- [Test]] ']', behind a Primary
pub data Suffix (nested : Level → Rule Tree) (of : Tree) : List Symbol
    → Tree
    → List Symbol
    → Type 0 where
  attr : {r : List Symbol} {l m : ℕ} {name : List ℕ} {a : Tree}
      → deep (e.Attr of.0 name) of.1 ≡ Some a
      → Suffix nested of (sign s.Dot l ∷ word name m ∷ r) a r
  call : {i r : List Symbol} {l : ℕ} {args : Deep (List BareArg)} {a : Tree}
      → Listed s.RightRound (Arg (nested level.Test)) i args r
      → are_args args.0 ≡ true
      → deep (e.Call of.0 args.0) (max of.1 args.1) ≡ Some a
      → Suffix nested of (sign s.LeftRound l ∷ i) a r
  index : {i r : List Symbol} {l m : ℕ} {at a : Tree}
      → Expression (nested level.Test) i at (sign s.RightSquare m ∷ r)
      → deep (e.Index of.0 at.0) (max of.1 at.1) ≡ Some a
      → Suffix nested of (sign s.LeftSquare l ∷ i) a r
  slice : {i j k r : List Symbol} {l m n : ℕ} {begin end step : Deep (Option BareExpr)} {a : Tree}
      → Bound (nested level.Test) i begin (sign s.Colon m ∷ j)
      → Bound (nested level.Test) j end k
      → Step (nested level.Test) k step (sign s.RightSquare n ∷ r)
      → deep (e.Slice of.0 begin.0 end.0 step.0) (max of.1 (max begin.1 (max end.1 step.1)))
      ≡ Some a
      → Suffix nested of (sign s.LeftSquare l ∷ i) a r

-- Primary = Operand | Primary '.' identifier | Primary '(' [Arg {',' Arg} [',']] ')' | Primary '['
-- Expression ']' | Primary '[' [Test] ':' [Test] [':' [Test]] ']'
abbrev pub Primary : (Level → Rule Tree) → Rule Tree
Primary nested = Repeated (Operand nested) (Suffix nested)

-- a sign of the table before its operand, or what binds tighter
pub data Prefixed (table : Sign → Option UnOp) (operand tighter : Rule Tree) : List Symbol
    → Tree
    → List Symbol
    → Type 0 where
  plain : {i r : List Symbol} {a : Tree} → tighter i a r → Prefixed table operand tighter i a r
  prefixed : {i r : List Symbol} {what : Sign} {l : ℕ} {op : UnOp} {a b : Tree}
      → table what ≡ Some op
      → operand i a r
      → deep (e.Unary op a.0) a.1 ≡ Some b
      → Prefixed table operand tighter (sign what l ∷ i) b r

-- an operator of the level and an operand that binds tighter, behind what stands to the left
pub data Operation (binary : ℕ) (tighter : Rule Tree) (left : Tree) : List Symbol
    → Tree
    → List Symbol
    → Type 0 where
  operation : {i r : List Symbol} {what : Sign} {l : ℕ} {op : BinOp} {right a : Tree}
      → operator binary what ≡ Some op
      → tighter i right r
      → deep (e.Binary op left.0 right.0) (max left.1 right.1) ≡ Some a
      → Operation binary tighter left (sign what l ∷ i) a r

-- operations of one level, to the left
abbrev pub Chain : ℕ → Rule Tree → Rule Tree
Chain binary tighter = Repeated tighter (Operation binary tighter)

-- ('+' | '-' | '~') Unary | Primary
abbrev pub Unary : (Level → Rule Tree) → Rule Tree
Unary nested = Prefixed prefix (nested level.Unary) (Primary nested)

-- the levels from products up to `|`, so many of them, over the unary operators
unfoldable pub Arithmetic : (Level → Rule Tree) → ℕ → Rule Tree
Arithmetic nested zero = Unary nested
Arithmetic nested (suc binary) = Chain binary (Arithmetic nested binary)

-- one comparison or none: comparisons don't chain
pub data Comparison (tighter : Rule Tree) : List Symbol → Tree → List Symbol → Type 0 where
  plain : {i r : List Symbol} {a : Tree} → tighter i a r → Comparison tighter i a r
  compared : {i j r : List Symbol} {what : Sign} {l : ℕ} {op : BinOp} {left right a : Tree}
      → tighter i left (sign what l ∷ j)
      → comparison what ≡ Some op
      → tighter j right r
      → deep (e.Binary op left.0 right.0) (max left.1 right.1) ≡ Some a
      → Comparison tighter i a r
  outside : {i j r : List Symbol} {l m : ℕ} {left right a : Tree}
      → tighter i left (sign s.Not l ∷ sign s.In m ∷ j)
      → tighter j right r
      → deep (e.Binary bin.NotWithin left.0 right.0) (max left.1 right.1) ≡ Some a
      → Comparison tighter i a r

-- 'not' Negation | Comparison
abbrev pub Negation : (Level → Rule Tree) → Rule Tree
Negation nested = Prefixed negation (nested level.Negation) (Comparison (Arithmetic nested 6))

-- `and` binds tighter than `or`
abbrev pub Disjunction : (Level → Rule Tree) → Rule Tree
Disjunction nested = Chain 7 (Chain 6 (Negation nested))

-- Test = Or ['if' Or 'else' Test] | 'lambda' [Param {',' Param}] ':' Test
pub data Test (nested : Level → Rule Tree) : List Symbol → Tree → List Symbol → Type 0 where
  plain : {i r : List Symbol} {a : Tree} → Disjunction nested i a r → Test nested i a r
  cond : {i j k r : List Symbol} {l m : ℕ} {then test other a : Tree}
      → Disjunction nested i then (sign s.If l ∷ j)
      → Disjunction nested j test (sign s.Else m ∷ k)
      → nested level.Test k other r
      → deep (e.Cond test.0 then.0 other.0) (max then.1 (max test.1 other.1)) ≡ Some a
      → Test nested i a r
  lambda : {i j r : List Symbol} {l : ℕ} {params : Deep (List BareParam)} {body a : Tree}
      → Signature (nested level.Test) i params j
      → are_params params.0 ≡ true
      → nested level.Test j body r
      → deep (e.Lambda params.0 body.0 l) (max params.1 body.1) ≡ Some a
      → Test nested (sign s.Lambda l ∷ i) a r

-- one layer of each level over what nests in it
abbrev pub At : (Level → Rule Tree) → Level → Rule Tree
At nested level.Primary = Primary nested
At nested level.Unary = Unary nested
At nested level.Negation = Negation nested
At nested level.Disjunction = Disjunction nested
At nested level.Test = Test nested

-- expressions in which so many constructs nest at most
unfoldable pub Spells : ℕ → Level → Rule Tree
Spells zero what i a r = ⊥
Spells (suc nesting) what i a r = At (Spells nesting) what i a r
