-- What a rule reads leaves no more symbols than there were.
use Rattle.std.proofs.Common.{ℕ, zero, suc, ◌<◌, ◌≤◌, List, length, Option, arith, le_refl}
use Rattle.std.proofs.Common.{le_trans}
use Rattle.star_trees.specs.declared.trees.UnOp.{UnOp}
use Rattle.star_grammar.specs.declared.symbols.Sign.{Sign}
use Rattle.star_grammar.specs.declared.symbols.Sign.TheVariants as s
use Rattle.star_grammar.specs.declared.symbols.Symbol.{Symbol}
use Rattle.star_grammar.specs.declared.bare_expressions.Level.{Level}
use Rattle.star_grammar.specs.declared.bare_expressions.Level.TheVariants as level
use Rattle.star_grammar.specs.Rules.{Rule, Deep, Repeated, Nothing, One, Adds, Joins, After, Series}
use Rattle.star_grammar.specs.Rules.{Closed, Listed}
use Rattle.star_grammar.specs.Expressions as g
use Rattle.star_grammar.specs.Expressions.{Tree}
use Rattle.star_grammar.specs.Statements as t
use Rattle.star_grammar.specs.Statements.{Statements}
use Rattle.star_trees.specs.declared.inside.Inside.{Inside}
use Rattle.star_grammar.specs.declared.bare_statements.Part.{Part}
use Rattle.star_grammar.specs.declared.bare_statements.Part.TheVariants as part
use Rattle.star_trees.specs.Surroundings.{in_branch, in_function, in_loop}

abbrev pub Shrinks : {A : Type 0} → Rule A → Type 0
Shrinks {A} rule = (i : List Symbol) (a : A) (r : List Symbol) → rule i a r → length r ≤ length i

-- at least one symbol is taken
abbrev pub Takes : {A : Type 0} → Rule A → Type 0
Takes {A} rule = (i : List Symbol) (a : A) (r : List Symbol) → rule i a r → length r < length i

pub Repeated-shrinks : {A : Type 0} (First : Rule A) (Turn : A → Rule A)
    → Shrinks First
    → ((a : A) → Shrinks (Turn a))
    → Shrinks (Repeated First Turn)
Repeated-shrinks First Turn first each i a r (Repeated.begins so) = first i a r so
Repeated-shrinks First Turn first each i a r (Repeated.goes {j} {a = b} so more) = le_trans
    (each b j a r more) (Repeated-shrinks First Turn first each i b j so)

pub Nothing-shrinks : {A : Type 0} → Shrinks (Nothing {A = A})
Nothing-shrinks i a r Nothing.nothing = le_refl _

pub One-shrinks : {A : Type 0} (item : Rule (Deep A)) → Shrinks item → Shrinks (One item)
One-shrinks item shrinks i a r (One.one so) = shrinks i _ r so

pub Adds-shrinks : {A : Type 0} (item : Rule (Deep A))
    → Shrinks item
    → (items : Deep (List A))
    → Shrinks (Adds item items)
Adds-shrinks item shrinks items i a r (Adds.adds so) = shrinks i _ r so

pub Adds-takes : {A : Type 0} (item : Rule (Deep A))
    → Takes item
    → (items : Deep (List A))
    → Takes (Adds item items)
Adds-takes item takes items i a r (Adds.adds so) = takes i _ r so

pub After-takes : {A : Type 0} (what : Sign) (rule : Rule A)
    → Shrinks rule
    → Takes (After what rule)
After-takes what rule shrinks i a r
    (After.after {i = j} so) = let under = shrinks j a r so in omega arith

pub Series-shrinks : {A : Type 0} (between : Sign) (item : Rule (Deep A))
    → Shrinks item
    → Shrinks (Series between item)
Series-shrinks between item shrinks = Repeated-shrinks (One item) (Adds (After between item))
    (One-shrinks item shrinks)
    (Adds-shrinks (After between item)
    (λ i a r so. let under = After-takes between item shrinks i a r so in omega arith))

pub Closed-takes : {A : Type 0} (between close : Sign) (rule : Rule A)
    → Shrinks rule
    → Takes (Closed between close rule)
Closed-takes between close rule shrinks i a r
    (Closed.plain so) = let under = shrinks i a _ so in omega arith
Closed-takes between close rule shrinks i a r
    (Closed.trailed so) = let under = shrinks i a _ so in omega arith

pub Listed-takes : {A : Type 0} (close : Sign) (item : Rule (Deep A))
    → Shrinks item
    → Takes (Listed close item)
Listed-takes close item shrinks i a r Listed.none = omega arith
Listed-takes close item shrinks i a r (Listed.some so) = Closed-takes s.Comma close
    (Series s.Comma item) (Series-shrinks s.Comma item shrinks) i a r so

-- ---- expressions

module _ (item : Rule Tree) (item-shrinks : Shrinks item) where
  pub Expression-shrinks : Shrinks (g.Expression item)
  Expression-shrinks i a r
      (g.Expression.listed {items} so _) = Series-shrinks s.Comma item item-shrinks i items r so

  pub Vars-shrinks : Shrinks (g.Vars item)
  Vars-shrinks i a r (g.Vars.targets so _) = Expression-shrinks i a r so

  pub Param-shrinks : Shrinks (g.Param item)
  Param-shrinks i a r g.Param.required = omega arith
  Param-shrinks i a r (g.Param.optional {i = j} {a = b} so) = let under = item-shrinks j b r so in
      omega arith
  Param-shrinks i a r g.Param.bare = omega arith
  Param-shrinks i a r g.Param.rest = omega arith
  Param-shrinks i a r g.Param.keywords = omega arith

  pub Signature-shrinks : Shrinks (g.Signature item)
  Signature-shrinks i a r g.Signature.none = omega arith
  Signature-shrinks i a r (g.Signature.some so) = let under = Series-shrinks s.Comma
      (g.Param item) Param-shrinks i a _ so in omega arith

  pub Arg-shrinks : Shrinks (g.Arg item)
  Arg-shrinks i a r (g.Arg.positional {a = b} so) = item-shrinks i b r so
  Arg-shrinks i a r (g.Arg.named {i = j} {a = b} so) = let under = item-shrinks j b r so in omega
      arith
  Arg-shrinks i a r (g.Arg.star {i = j} {a = b} so) = let under = item-shrinks j b r so in omega
      arith
  Arg-shrinks i a r (g.Arg.double_star {i = j} {a = b} so) = let under = item-shrinks j b r so in
      omega arith

  pub Entry-shrinks : Shrinks (g.Entry item)
  Entry-shrinks i a r (g.Entry.entry {j} {key} {value} so also) = let under = item-shrinks i key _
      so in let more = item-shrinks j value r also in omega arith

  pub Bound-shrinks : Shrinks (g.Bound item)
  Bound-shrinks i a r g.Bound.absent = le_refl _
  Bound-shrinks i a r (g.Bound.present {a = b} so) = item-shrinks i b r so

  pub Step-shrinks : Shrinks (g.Step item)
  Step-shrinks i a r g.Step.absent = le_refl _
  Step-shrinks i a r (g.Step.present {i = j} so) = let under = Bound-shrinks j a r so in omega arith

module _ (Nested : Level → Rule Tree)
    (nested-shrinks : (what : Level) → Shrinks (Nested what)) where
  pub ForClause-takes : Takes (g.ForClause Nested)
  ForClause-takes i a r
      (g.ForClause.loop {i = j} {j = k} {to} {over} so also) = let under = Vars-shrinks
      (Nested level.Primary)
      (nested-shrinks level.Primary) j to _ so in let more = nested-shrinks level.Disjunction k over
      r also in omega arith

  pub AnyClause-takes : Takes (g.AnyClause Nested)
  AnyClause-takes i a r (g.AnyClause.loop so) = ForClause-takes i a r so
  AnyClause-takes i a r
      (g.AnyClause.test {i = j} {a = b} so) = let under = nested-shrinks level.Disjunction j b r
      so in omega arith

  pub Comp-shrinks : Shrinks (g.Comp Nested)
  Comp-shrinks = Repeated-shrinks (One (g.ForClause Nested)) (Adds (g.AnyClause Nested))
      (One-shrinks (g.ForClause Nested)
      (λ i a r so. let under = ForClause-takes i a r so in omega arith))
      (Adds-shrinks (g.AnyClause Nested)
      (λ i a r so. let under = AnyClause-takes i a r so in omega arith))

  pub Operand-shrinks : Shrinks (g.Operand Nested)
  Operand-shrinks i a r g.Operand.name = omega arith
  Operand-shrinks i a r g.Operand.integer = omega arith
  Operand-shrinks i a r g.Operand.text = omega arith
  Operand-shrinks i a r
      (g.Operand.list {i = j} {items} so _) = let under = Listed-takes s.RightSquare
      (Nested level.Test) (nested-shrinks level.Test) j items r so in omega arith
  Operand-shrinks i a r
      (g.Operand.list_comp {i = j} {j = k} {item} {clauses} so also _) = let under = nested-shrinks
      level.Test j item k so in let more = Comp-shrinks k clauses _ also in omega arith
  Operand-shrinks i a r
      (g.Operand.dict {i = j} {pairs} so _) = let under = Listed-takes s.RightCurly
      (g.Entry (Nested level.Test))
      (Entry-shrinks (Nested level.Test) (nested-shrinks level.Test)) j pairs r so in omega arith
  Operand-shrinks i a r
      (g.Operand.dict_comp {i = h} {j} {k} {key} {value} {clauses} so also more _) = let one =
      nested-shrinks level.Test h key _ so in let two = nested-shrinks level.Test j value k also in
      let three = Comp-shrinks k clauses _ more in omega arith
  Operand-shrinks i a r (g.Operand.empty _) = omega arith
  Operand-shrinks i a r (g.Operand.round {i = j} {items} so _) = let under = Series-shrinks s.Comma
      (Nested level.Test) (nested-shrinks level.Test) j items _ so in omega arith
  Operand-shrinks i a r (g.Operand.tuple {i = j} {items} so _) = let under = Series-shrinks s.Comma
      (Nested level.Test) (nested-shrinks level.Test) j items _ so in omega arith

  pub Suffix-takes : (of : Tree) → Takes (g.Suffix Nested of)
  Suffix-takes of i a r (g.Suffix.attr _) = omega arith
  Suffix-takes of i a r
      (g.Suffix.call {i = j} {args} so _ _) = let under = Listed-takes s.RightRound
      (g.Arg (Nested level.Test))
      (Arg-shrinks (Nested level.Test) (nested-shrinks level.Test)) j args r so in omega arith
  Suffix-takes of i a r (g.Suffix.index {i = j} {at} so _) = let under = Expression-shrinks
      (Nested level.Test) (nested-shrinks level.Test) j at _ so in omega arith
  Suffix-takes of i a r
      (g.Suffix.slice {i = h} {j} {k} {begin} {end} {step} so also more _) = let one = Bound-shrinks
      (Nested level.Test) (nested-shrinks level.Test) h begin _ so in let two = Bound-shrinks
      (Nested level.Test) (nested-shrinks level.Test) j end k also in let three = Step-shrinks
      (Nested level.Test) (nested-shrinks level.Test) k step _ more in omega arith

  pub Primary-shrinks : Shrinks (g.Primary Nested)
  Primary-shrinks = Repeated-shrinks (g.Operand Nested) (g.Suffix Nested) Operand-shrinks
      (λ of i a r so. let under = Suffix-takes of i a r so in omega arith)

  Prefixed-shrinks : (table : Sign → Option UnOp) (operand tighter : Rule Tree)
      → Shrinks operand
      → Shrinks tighter
      → Shrinks (g.Prefixed table operand tighter)
  Prefixed-shrinks table operand tighter one two i a r (g.Prefixed.plain so) = two i a r so
  Prefixed-shrinks table operand tighter one two i a r
      (g.Prefixed.prefixed {i = j} {a = b} _ so _) = let under = one j b r so in omega arith

  pub Unary-shrinks : Shrinks (g.Unary Nested)
  Unary-shrinks = Prefixed-shrinks _ (Nested level.Unary) (g.Primary Nested)
      (nested-shrinks level.Unary) Primary-shrinks

  pub Operation-takes : (binary : ℕ) (tighter : Rule Tree)
      → Shrinks tighter
      → (left : Tree)
      → Takes (g.Operation binary tighter left)
  Operation-takes binary tighter shrinks left i a r
      (g.Operation.operation {i = j} {right} _ so _) = let under = shrinks j right r so in omega
      arith

  pub Chain-shrinks : (binary : ℕ) (tighter : Rule Tree)
      → Shrinks tighter
      → Shrinks (g.Chain binary tighter)
  Chain-shrinks binary tighter shrinks = Repeated-shrinks tighter
      (g.Operation binary tighter) shrinks
      (λ left i a r so. let under = Operation-takes binary tighter shrinks left i a r so in omega
      arith)

  pub Arithmetic-shrinks : (binary : ℕ) → Shrinks (g.Arithmetic Nested binary)
  unfolding g.Arithmetic
  Arithmetic-shrinks zero = Unary-shrinks
  Arithmetic-shrinks (suc binary) = Chain-shrinks binary (g.Arithmetic Nested binary)
      (Arithmetic-shrinks binary)

  pub Comparison-shrinks : (tighter : Rule Tree) → Shrinks tighter → Shrinks (g.Comparison tighter)
  Comparison-shrinks tighter shrinks i a r (g.Comparison.plain so) = shrinks i a r so
  Comparison-shrinks tighter shrinks i a r
      (g.Comparison.compared {j} {left} {right} so _ also _) = let one = shrinks i left _ so in let
      two = shrinks j right r also in omega arith
  Comparison-shrinks tighter shrinks i a r
      (g.Comparison.outside {j} {left} {right} so also _) = let one = shrinks i left _ so in let two
      = shrinks j right r also in omega arith

  pub Negation-shrinks : Shrinks (g.Negation Nested)
  Negation-shrinks = Prefixed-shrinks _ (Nested level.Negation)
      (g.Comparison (g.Arithmetic Nested 6)) (nested-shrinks level.Negation)
      (Comparison-shrinks (g.Arithmetic Nested 6) (Arithmetic-shrinks 6))

  pub Conjunction-shrinks : Shrinks (g.Chain 6 (g.Negation Nested))
  Conjunction-shrinks = Chain-shrinks 6 (g.Negation Nested) Negation-shrinks

  pub Disjunction-shrinks : Shrinks (g.Disjunction Nested)
  Disjunction-shrinks = Chain-shrinks 7 (g.Chain 6 (g.Negation Nested)) Conjunction-shrinks

  pub Test-shrinks : Shrinks (g.Test Nested)
  Test-shrinks i a r (g.Test.plain so) = Disjunction-shrinks i a r so
  Test-shrinks i a r (g.Test.cond {j} {k} {then = chosen} {test} {other} so also more _) = let one =
      Disjunction-shrinks i chosen _ so in let two = Disjunction-shrinks j test _ also in let three
      = nested-shrinks level.Test k other r more in omega arith
  Test-shrinks i a r (g.Test.lambda {i = h} {j} {params} {body} so _ also _) = let one =
      Signature-shrinks (Nested level.Test)
      (nested-shrinks level.Test) h params j so in let two = nested-shrinks level.Test j body r
      also in omega arith

  At-shrinks : (what : Level) → Shrinks (g.At Nested what)
  At-shrinks level.Primary = Primary-shrinks
  At-shrinks level.Unary = Unary-shrinks
  At-shrinks level.Negation = Negation-shrinks
  At-shrinks level.Disjunction = Disjunction-shrinks
  At-shrinks level.Test = Test-shrinks

pub Spells-shrinks : (nesting : ℕ) (what : Level) → Shrinks (g.Spells nesting what)
unfolding g.Spells
Spells-shrinks zero what i a r so = absurd so
Spells-shrinks (suc nesting) what i a r so = At-shrinks (g.Spells nesting)
    (Spells-shrinks nesting) what i a r so

-- ---- statements

pub Loaded-shrinks : Shrinks t.Loaded
Loaded-shrinks i a r t.Loaded.same = omega arith
Loaded-shrinks i a r t.Loaded.renamed = omega arith

LoadedNames-takes : Takes t.LoadedNames
LoadedNames-takes = Closed-takes s.Comma s.RightRound
    (Repeated Nothing (Adds (After s.Comma t.Loaded)))
    (Repeated-shrinks Nothing (Adds (After s.Comma t.Loaded)) Nothing-shrinks
    (Adds-shrinks (After s.Comma t.Loaded)
    (λ i a r so. let under = After-takes s.Comma t.Loaded Loaded-shrinks i a r so in omega arith)))

module _ (Expressions : Level → Rule Tree)
    (expressions-shrinks : (what : Level) → Shrinks (Expressions what)) where
  Whole-shrinks : Shrinks (g.Expression (Expressions level.Test))
  Whole-shrinks = Expression-shrinks (Expressions level.Test) (expressions-shrinks level.Test)

  pub Small-shrinks : (inside : Inside) → Shrinks (t.Small Expressions inside)
  Small-shrinks inside i a r (t.Small.returned_nothing _) = omega arith
  Small-shrinks inside i a r
      (t.Small.returned {i = j} {value} _ so _) = let under = Whole-shrinks j value r so in omega
      arith
  Small-shrinks inside i a r (t.Small.breaks _) = omega arith
  Small-shrinks inside i a r (t.Small.continues _) = omega arith
  Small-shrinks inside i a r t.Small.passes = omega arith
  Small-shrinks inside i a r
      (t.Small.loads {i = j} {names} _ so _) = let under = LoadedNames-takes j names r so in omega
      arith
  Small-shrinks inside i a r
      (t.Small.assigned {j} {to} {value} so _ also _) = let one = Whole-shrinks i to _ so in let two
      = Whole-shrinks j value r also in omega arith
  Small-shrinks inside i a r
      (t.Small.changed {j} {place} {value} so _ _ also _) = let one = Whole-shrinks i place _ so in
      let two = Whole-shrinks j value r also in omega arith
  Small-shrinks inside i a r (t.Small.valued {value} so _) = Whole-shrinks i value r so

  Simple-takes : (inside : Inside) → Takes (t.Simple Expressions inside)
  Simple-takes inside = Closed-takes s.Semicolon s.Newline
      (Series s.Semicolon (t.Small Expressions inside))
      (Series-shrinks s.Semicolon (t.Small Expressions inside) (Small-shrinks inside))

  module _ (Nested : Part → Inside → Rule Statements)
      (nested-takes : (what : Part) (inside : Inside) → Takes (Nested what inside)) where
    Suite-takes : (inside : Inside) → Takes (t.Suite Nested inside)
    Suite-takes inside i a r (t.Suite.block {i = j} so) = let under = Repeated-shrinks Nothing
        (Joins (Nested part.Statement inside)) Nothing-shrinks joins-shrinks j a _ so in omega arith
      where
        joins-shrinks : (items : Statements) → Shrinks (Joins (Nested part.Statement inside) items)
        joins-shrinks items i a r
            (Joins.joins {a = b} so) = let under = nested-takes part.Statement inside i b r so in
            omega arith
    Suite-takes inside i a r (t.Suite.line so) = nested-takes part.Line inside i a r so

    Otherwise-shrinks : (inside : Inside) → Shrinks (t.Otherwise Nested inside)
    Otherwise-shrinks inside i a r t.Otherwise.absent = le_refl _
    Otherwise-shrinks inside i a r
        (t.Otherwise.elif so) = let under = nested-takes part.Elif inside i a r so in omega arith
    Otherwise-shrinks inside i a r (t.Otherwise.else {i = j} so) = let under = Suite-takes
        (in_branch inside) j a r so in omega arith

    Branch-takes : (first : Sign) (inside : Inside)
        → Takes (t.Branch first Expressions Nested inside)
    Branch-takes first inside i a r
        (t.Branch.branch {i = h} {j} {k} {test} {then = chosen} {other} so also more _) = let one =
        expressions-shrinks level.Test h test _ so in let two = Suite-takes
        (in_branch inside) j chosen k also in let three = Otherwise-shrinks inside k other r more in
        omega arith

    Statement-takes : (inside : Inside) → Takes (t.Statement Expressions Nested inside)
    Statement-takes inside i a r
        (t.Statement.def {i = h} {j} {params} {body} so _ also _) = let one = Listed-takes
        s.RightRound (g.Param (Expressions level.Test))
        (Param-shrinks (Expressions level.Test)
        (expressions-shrinks level.Test)) h params _ so in let two = Suite-takes in_function j body
        r also in omega arith
    Statement-takes inside i a r (t.Statement.branch so) = Branch-takes s.If inside i a r so
    Statement-takes inside i a r
        (t.Statement.loop {i = h} {j} {k} {to} {over} {body} so also more _) = let one =
        Vars-shrinks (Expressions level.Primary)
        (expressions-shrinks level.Primary) h to _ so in let two = Whole-shrinks j over _ also in
        let three = Suite-takes (in_loop inside) k body r more in omega arith
    Statement-takes inside i a r (t.Statement.simple so) = Simple-takes inside i a r so

    Of-takes : (what : Part) (inside : Inside) → Takes (t.Of Expressions Nested what inside)
    Of-takes part.Statement inside = Statement-takes inside
    Of-takes part.Line inside = Simple-takes inside
    Of-takes part.Elif inside = Branch-takes s.Elif inside

pub Stands-takes : (nesting : ℕ) (what : Part) (inside : Inside)
    → Takes (t.Stands nesting what inside)
unfolding t.Stands
Stands-takes zero what inside i a r so = absurd so
Stands-takes (suc nesting) what inside i a r so = Of-takes (g.Spells nesting)
    (Spells-shrinks nesting) (t.Stands nesting) (Stands-takes nesting) what inside i a r so
