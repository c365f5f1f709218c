-- Which symbols begin what a rule reads.
use Rattle.std.proofs.Common.{◌≡◌, ℕ, zero, suc, ◌≤◌, List, true, refl, arith}
use Rattle.star_grammar.specs.declared.symbols.Sign.{Sign}
use Rattle.star_grammar.specs.declared.symbols.Symbol.{Symbol}
use Rattle.star_grammar.specs.declared.symbols.Sign.TheVariants as s
use Rattle.star_grammar.specs.declared.bare_expressions.Level.{Level}
use Rattle.star_grammar.specs.declared.bare_expressions.Level.TheVariants as level
use Rattle.star_grammar.specs.Rules.{Rule, Deep, Repeated, One, Adds, After, Series, Closed}
use Rattle.star_grammar.specs.Expressions as g
use Rattle.star_grammar.specs.Expressions.{Tree}
use Rattle.star_grammar.specs.Readers.{same_sign, sees}
use Rattle.star_grammar.specs.Statements as t
use Rattle.star_grammar.specs.Statements.{Statements}
use Rattle.star_trees.specs.declared.inside.Inside.{Inside}
use Rattle.star_grammar.specs.declared.bare_statements.Part.{Part}
use Rattle.star_grammar.specs.declared.bare_statements.Part.TheVariants as part
use Rattle.star_grammar.proofs.Fronts.{class, prefix-class, negation-class}

abbrev pub Opens : {A : Type 0} → ℕ → Rule A → Type 0
Opens {A} n rule = (i : List Symbol) (a : A) (r : List Symbol) → rule i a r → class i ≤ n

pub Repeated-opens : {A : Type 0} (n : ℕ) (First : Rule A) (Turn : A → Rule A)
    → Opens n First
    → Opens n (Repeated First Turn)
Repeated-opens n First Turn first i a r (Repeated.begins so) = first i a r so
Repeated-opens n First Turn first i a r
    (Repeated.goes {j} {a = b} so _) = Repeated-opens n First Turn first i b j so

pub One-opens : {A : Type 0} (n : ℕ) (item : Rule (Deep A)) → Opens n item → Opens n (One item)
One-opens n item opens i a r (One.one {a = b} so) = opens i b r so

pub Series-opens : {A : Type 0} (n : ℕ) (between : Sign) (item : Rule (Deep A))
    → Opens n item
    → Opens n (Series between item)
Series-opens n between item opens = Repeated-opens n (One item) (Adds (After between item))
    (One-opens n item opens)

pub Expression-opens : (n : ℕ) (item : Rule Tree) → Opens n item → Opens n (g.Expression item)
Expression-opens n item opens i a r
    (g.Expression.listed {items} so _) = Series-opens n s.Comma item opens i items r so

pub Param-opens : (item : Rule Tree) → Opens 4 (g.Param item)
Param-opens item i a r g.Param.required = omega arith
Param-opens item i a r (g.Param.optional _) = omega arith
Param-opens item i a r g.Param.bare = omega arith
Param-opens item i a r g.Param.rest = omega arith
Param-opens item i a r g.Param.keywords = omega arith

pub Arg-opens : (item : Rule Tree) → Opens 3 item → Opens 4 (g.Arg item)
Arg-opens item opens i a r (g.Arg.positional {a = b} so) = let under = opens i b r so in omega arith
Arg-opens item opens i a r (g.Arg.named _) = omega arith
Arg-opens item opens i a r (g.Arg.star _) = omega arith
Arg-opens item opens i a r (g.Arg.double_star _) = omega arith

pub Entry-opens : (item : Rule Tree) → Opens 3 item → Opens 3 (g.Entry item)
Entry-opens item opens i a r (g.Entry.entry {key} so _) = opens i key _ so

-- what begins an expression of each level
abbrev pub opening : Level → ℕ
opening level.Primary = 0
opening level.Unary = 1
opening level.Negation = 2
opening level.Disjunction = 2
opening level.Test = 3

module _ (Nested : Level → Rule Tree) where
  pub Operand-opens : Opens 0 (g.Operand Nested)
  Operand-opens i a r g.Operand.name = omega arith
  Operand-opens i a r g.Operand.integer = omega arith
  Operand-opens i a r g.Operand.text = omega arith
  Operand-opens i a r (g.Operand.list _ _) = omega arith
  Operand-opens i a r (g.Operand.list_comp _ _ _) = omega arith
  Operand-opens i a r (g.Operand.dict _ _) = omega arith
  Operand-opens i a r (g.Operand.dict_comp _ _ _ _) = omega arith
  Operand-opens i a r (g.Operand.empty _) = omega arith
  Operand-opens i a r (g.Operand.round _ _) = omega arith
  Operand-opens i a r (g.Operand.tuple _ _) = omega arith

  pub Primary-opens : Opens 0 (g.Primary Nested)
  Primary-opens = Repeated-opens 0 (g.Operand Nested) (g.Suffix Nested) Operand-opens

  pub Unary-opens : Opens 1 (g.Unary Nested)
  Unary-opens i a r (g.Prefixed.plain so) = let under = Primary-opens i a r so in omega arith
  Unary-opens i a r (g.Prefixed.prefixed {what} {op} known _ _) = let same = prefix-class what op
      known in omega arith

  pub Chain-opens : (n binary : ℕ) (tighter : Rule Tree)
      → Opens n tighter
      → Opens n (g.Chain binary tighter)
  Chain-opens n binary tighter = Repeated-opens n tighter (g.Operation binary tighter)

  pub Arithmetic-opens : (binary : ℕ) → Opens 1 (g.Arithmetic Nested binary)
  unfolding g.Arithmetic
  Arithmetic-opens zero = Unary-opens
  Arithmetic-opens (suc binary) = Chain-opens 1 binary (g.Arithmetic Nested binary)
      (Arithmetic-opens binary)

  pub Comparison-opens : Opens 1 (g.Comparison (g.Arithmetic Nested 6))
  Comparison-opens i a r (g.Comparison.plain so) = Arithmetic-opens 6 i a r so
  Comparison-opens i a r (g.Comparison.compared {left} so _ _ _) = Arithmetic-opens 6 i left _ so
  Comparison-opens i a r (g.Comparison.outside {left} so _ _) = Arithmetic-opens 6 i left _ so

  pub Negation-opens : Opens 2 (g.Negation Nested)
  Negation-opens i a r (g.Prefixed.plain so) = let under = Comparison-opens i a r so in omega arith
  Negation-opens i a r
      (g.Prefixed.prefixed {what} {op} known _ _) = let same = negation-class what op known in omega
      arith

  pub Disjunction-opens : Opens 2 (g.Disjunction Nested)
  Disjunction-opens = Chain-opens 2 7 (g.Chain 6 (g.Negation Nested))
      (Chain-opens 2 6 (g.Negation Nested) Negation-opens)

  pub Test-opens : Opens 3 (g.Test Nested)
  Test-opens i a r (g.Test.plain so) = let under = Disjunction-opens i a r so in omega arith
  Test-opens i a r (g.Test.cond {then = chosen} so _ _ _) = let under = Disjunction-opens i chosen _
      so in omega arith
  Test-opens i a r (g.Test.lambda _ _ _ _) = omega arith

  At-opens : (what : Level) → Opens (opening what) (g.At Nested what)
  At-opens level.Primary = Primary-opens
  At-opens level.Unary = Unary-opens
  At-opens level.Negation = Negation-opens
  At-opens level.Disjunction = Disjunction-opens
  At-opens level.Test = Test-opens

pub Spells-opens : (nesting : ℕ) (what : Level) → Opens (opening what) (g.Spells nesting what)
unfolding g.Spells
Spells-opens zero what i a r so = absurd so
Spells-opens (suc nesting) what i a r so = At-opens (g.Spells nesting) what i a r so

-- ---- statements

module _ (Expressions : Level → Rule Tree) (test-opens : Opens 3 (Expressions level.Test)) where
  pub Whole-opens : Opens 3 (g.Expression (Expressions level.Test))
  Whole-opens = Expression-opens 3 (Expressions level.Test) test-opens

  pub Small-opens : (inside : Inside) → Opens 4 (t.Small Expressions inside)
  Small-opens inside i a r (t.Small.returned_nothing _) = omega arith
  Small-opens inside i a r (t.Small.returned _ _ _) = omega arith
  Small-opens inside i a r (t.Small.breaks _) = omega arith
  Small-opens inside i a r (t.Small.continues _) = omega arith
  Small-opens inside i a r t.Small.passes = omega arith
  Small-opens inside i a r (t.Small.loads _ _ _) = omega arith
  Small-opens inside i a r
      (t.Small.assigned {to} so _ _ _) = let under = Whole-opens i to _ so in omega arith
  Small-opens inside i a r
      (t.Small.changed {place} so _ _ _ _) = let under = Whole-opens i place _ so in omega arith
  Small-opens inside i a r
      (t.Small.valued {value} so _) = let under = Whole-opens i value r so in omega arith

  pub Simple-opens : (inside : Inside) → Opens 4 (t.Simple Expressions inside)
  Simple-opens inside i a r (Closed.plain so) = Series-opens 4 s.Semicolon
      (t.Small Expressions inside) (Small-opens inside) i a _ so
  Simple-opens inside i a r (Closed.trailed so) = Series-opens 4 s.Semicolon
      (t.Small Expressions inside) (Small-opens inside) i a _ so

  Statement-opens : (Nested : Part → Inside → Rule Statements) (inside : Inside)
      → Opens 5 (t.Statement Expressions Nested inside)
  Statement-opens Nested inside i a r (t.Statement.def _ _ _ _) = omega arith
  Statement-opens Nested inside i a r (t.Statement.branch (t.Branch.branch _ _ _ _)) = omega arith
  Statement-opens Nested inside i a r (t.Statement.loop _ _ _ _) = omega arith
  Statement-opens Nested inside i a r
      (t.Statement.simple so) = let under = Simple-opens inside i a r so in omega arith

pub Stands-opens : (nesting : ℕ) (inside : Inside)
    → Opens 5 (t.Stands nesting part.Statement inside)
unfolding t.Stands
Stands-opens zero inside i a r so = absurd so
Stands-opens (suc nesting) inside i a r so = Statement-opens (g.Spells nesting)
    (Spells-opens nesting level.Test) (t.Stands nesting) inside i a r so

pub Line-opens : (nesting : ℕ) (inside : Inside) → Opens 4 (t.Stands nesting part.Line inside)
unfolding t.Stands
Line-opens zero inside i a r so = absurd so
Line-opens (suc nesting) inside i a r so = Simple-opens (g.Spells nesting)
    (Spells-opens nesting level.Test) inside i a r so

pub Elif-opens : (nesting : ℕ) (inside : Inside) (i : List Symbol) (a : Statements)
    (r : List Symbol) → t.Stands nesting part.Elif inside i a r → sees s.Elif i ≡ true
unfolding t.Stands same_sign
Elif-opens zero inside i a r so = absurd so
Elif-opens (suc nesting) inside i a r (t.Branch.branch _ _ _ _) = refl
