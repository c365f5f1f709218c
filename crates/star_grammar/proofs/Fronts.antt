-- The first symbol of what stands, and the first behind it: how tight a sign binds what stands
-- before it, and what begins with a symbol.
use Rattle.std.proofs.Common.{◌≡◌, ℕ, suc, ◌<◌, ◌≤◌, false, List, [], ◌∷◌, Option, Some, None, eqb}
use Rattle.std.proofs.Common.{refl, arith, ap}
use Rattle.std.proofs.lemmas.Bool.{eqb-true, cond_both}
use Rattle.std.proofs.lemmas.Option.{none-some}
use Rattle.star_trees.specs.declared.trees.BinOp.{BinOp}
use Rattle.star_trees.specs.declared.trees.UnOp.{UnOp}
use Rattle.star_grammar.specs.declared.symbols.Sign.{Sign}
use Rattle.star_grammar.specs.declared.symbols.Sign.TheVariants as s
use Rattle.star_grammar.specs.declared.symbols.Symbol.{Symbol}
use Rattle.star_grammar.specs.declared.symbols.SymbolKind.{SymbolKind}
use Rattle.star_grammar.specs.declared.symbols.SymbolKind.TheVariants as kind
use Rattle.star_grammar.specs.Readers.{sees, sees_word, front_of}
use Rattle.star_grammar.specs.Operators.{at_level, operator, comparison, prefix, negation}
use Rattle.star_grammar.specs.Operators.{augmented}
use Rattle.star_grammar.proofs.Steps.{by_sign, by_front, by_word}

-- suffixes 0, binary operators one more than their level up to `|`, comparisons and `not` 7, `and`
-- 8, `or` 9, `if` 10, assignments 11, what ends an expression 12
abbrev pub sign_force : Sign → ℕ
sign_force s.Dot = 0
sign_force s.LeftRound = 0
sign_force s.LeftSquare = 0
sign_force s.Star = 1
sign_force s.Slashes = 1
sign_force s.Percent = 1
sign_force s.Plus = 2
sign_force s.Minus = 2
sign_force s.ShiftLeft = 3
sign_force s.ShiftRight = 3
sign_force s.Ampersand = 4
sign_force s.Caret = 5
sign_force s.Bar = 6
sign_force s.Equal = 7
sign_force s.Unequal = 7
sign_force s.Below = 7
sign_force s.Above = 7
sign_force s.AtMost = 7
sign_force s.AtLeast = 7
sign_force s.In = 7
sign_force s.Not = 7
sign_force s.And = 8
sign_force s.Or = 9
sign_force s.If = 10
sign_force s.Assign = 11
sign_force s.PlusAssign = 11
sign_force s.MinusAssign = 11
sign_force s.StarAssign = 11
sign_force s.SlashesAssign = 11
sign_force s.PercentAssign = 11
sign_force s.AmpersandAssign = 11
sign_force s.BarAssign = 11
sign_force s.CaretAssign = 11
sign_force s.ShiftLeftAssign = 11
sign_force s.ShiftRightAssign = 11
sign_force _ = 12

abbrev pub kind_force : SymbolKind → ℕ
kind_force (kind.Sign what) = sign_force what
kind_force (kind.Name _) = 0
kind_force (kind.Int _) = 0
kind_force (kind.Text _) = 0

abbrev pub force : List Symbol → ℕ
force [] = 12
force (symbol ∷ _) = kind_force symbol.kind

-- operands 0, unary operators 1, `not` 2, `lambda` 3, stars and small statements 4, statements with
-- suites 5, and 6 where nothing begins
abbrev pub sign_class : Sign → ℕ
sign_class s.LeftRound = 0
sign_class s.LeftSquare = 0
sign_class s.LeftCurly = 0
sign_class s.Plus = 1
sign_class s.Minus = 1
sign_class s.Tilde = 1
sign_class s.Not = 2
sign_class s.Lambda = 3
sign_class s.Star = 4
sign_class s.StarStar = 4
sign_class s.Return = 4
sign_class s.Break = 4
sign_class s.Continue = 4
sign_class s.Pass = 4
sign_class s.Load = 4
sign_class s.Def = 5
sign_class s.If = 5
sign_class s.For = 5
sign_class _ = 6

abbrev pub kind_class : SymbolKind → ℕ
kind_class (kind.Sign what) = sign_class what
kind_class (kind.Name _) = 0
kind_class (kind.Int _) = 0
kind_class (kind.Text _) = 0

abbrev pub class : List Symbol → ℕ
class [] = 6
class (symbol ∷ _) = kind_class symbol.kind

-- a sign that binds no looser isn't seen
pub unforced : (what : Sign) (n : ℕ)
    → sign_force what ≤ n
    → (i : List Symbol)
    → n < force i
    → sees what i ≡ false
unforced what n low i high = by_sign what (λ i. n < force i → sees what i ≡ false)
    (λ l j over. absurd (omega arith)) i (λ e _. e) high

-- a sign that begins less isn't seen
pub unopened : (what : Sign) (n : ℕ)
    → n < sign_class what
    → (i : List Symbol)
    → class i ≤ n
    → sees what i ≡ false
unopened what n high i low = by_sign what (λ i. class i ≤ n → sees what i ≡ false)
    (λ l j under. absurd (omega arith)) i (λ e _. e) low

pub unworded : (i : List Symbol) → 0 < force i → sees_word i ≡ false
unworded i high = by_word (λ i. 0 < force i → sees_word i ≡ false)
    (λ called l j over. absurd (omega arith)) i (λ e _. e) high

pub untabled : {B : Type 0} (table : Sign → Option B) (n : ℕ)
    → ((what : Sign) (op : B) → table what ≡ Some op → sign_force what ≤ n)
    → (i : List Symbol)
    → n < force i
    → front_of table i ≡ None
untabled {B} table n low i high = by_front table (λ i o. n < force i → o ≡ None)
    (λ what l op j known over. let bound = low what op known in absurd (omega arith)) i
    (λ _ _. refl) high

pub untabled_front : {B : Type 0} (table : Sign → Option B) (n : ℕ)
    → ((what : Sign) (op : B) → table what ≡ Some op → n < sign_class what)
    → (i : List Symbol)
    → class i ≤ n
    → front_of table i ≡ None
untabled_front {B} table n high i low = by_front table (λ i o. class i ≤ n → o ≡ None)
    (λ what l op j known under. let bound = high what op known in absurd (omega arith)) i
    (λ _ _. refl) low

at-level : (level k : ℕ) (is op : BinOp) → at_level level (Some (k, is)) ≡ Some op → k ≡ level
at-level level k is op e = cond_both (eqb k level) (Some is) None (λ o. o ≡ Some op → k ≡ level)
    (λ same _. eqb-true k level same) (λ _ none. absurd (none-some op none)) e

pub operator-arithmetic : (binary : ℕ)
    → binary < 6
    → (what : Sign) (op : BinOp)
    → operator binary what ≡ Some op
    → sign_force what ≡ suc binary
operator-arithmetic binary low s.Star op e = ap suc (at-level binary _ _ op e)
operator-arithmetic binary low s.Slashes op e = ap suc (at-level binary _ _ op e)
operator-arithmetic binary low s.Percent op e = ap suc (at-level binary _ _ op e)
operator-arithmetic binary low s.Plus op e = ap suc (at-level binary _ _ op e)
operator-arithmetic binary low s.Minus op e = ap suc (at-level binary _ _ op e)
operator-arithmetic binary low s.ShiftLeft op e = ap suc (at-level binary _ _ op e)
operator-arithmetic binary low s.ShiftRight op e = ap suc (at-level binary _ _ op e)
operator-arithmetic binary low s.Ampersand op e = ap suc (at-level binary _ _ op e)
operator-arithmetic binary low s.Caret op e = ap suc (at-level binary _ _ op e)
operator-arithmetic binary low s.Bar op e = ap suc (at-level binary _ _ op e)
operator-arithmetic binary low s.And op e = let same = at-level binary _ _ op e in absurd
    (omega arith)
operator-arithmetic binary low s.Or op e = let same = at-level binary _ _ op e in absurd
    (omega arith)
operator-arithmetic binary low _ op e = absurd (none-some op e)

pub operator-and : (what : Sign) (op : BinOp) → operator 6 what ≡ Some op → sign_force what ≡ 8
operator-and s.And op e = refl
operator-and _ op e = absurd (none-some op e)

pub operator-or : (what : Sign) (op : BinOp) → operator 7 what ≡ Some op → sign_force what ≡ 9
operator-or s.Or op e = refl
operator-or _ op e = absurd (none-some op e)

pub comparison-force : (what : Sign) (op : BinOp) → comparison what ≡ Some op → sign_force what ≡ 7
comparison-force s.Equal op e = refl
comparison-force s.Unequal op e = refl
comparison-force s.Below op e = refl
comparison-force s.Above op e = refl
comparison-force s.AtMost op e = refl
comparison-force s.AtLeast op e = refl
comparison-force s.In op e = refl
comparison-force _ op e = absurd (none-some op e)

pub augmented-force : (what : Sign) (op : BinOp) → augmented what ≡ Some op → sign_force what ≡ 11
augmented-force s.PlusAssign op e = refl
augmented-force s.MinusAssign op e = refl
augmented-force s.StarAssign op e = refl
augmented-force s.SlashesAssign op e = refl
augmented-force s.PercentAssign op e = refl
augmented-force s.AmpersandAssign op e = refl
augmented-force s.BarAssign op e = refl
augmented-force s.CaretAssign op e = refl
augmented-force s.ShiftLeftAssign op e = refl
augmented-force s.ShiftRightAssign op e = refl
augmented-force _ op e = absurd (none-some op e)

pub prefix-class : (what : Sign) (op : UnOp) → prefix what ≡ Some op → sign_class what ≡ 1
prefix-class s.Plus op e = refl
prefix-class s.Minus op e = refl
prefix-class s.Tilde op e = refl
prefix-class _ op e = absurd (none-some op e)

pub negation-class : (what : Sign) (op : UnOp) → negation what ≡ Some op → sign_class what ≡ 2
negation-class s.Not op e = refl
negation-class _ op e = absurd (none-some op e)
