-- What symbols spell is what the reader of an expression gives, where the symbols behind it don't
-- go on.
use Rattle.std.proofs.Common.{◌≡◌, ℕ, zero, suc, ◌<◌, ◌≤◌, max, Bool, true, false, ◌&&◌, ◌||◌, cond}
use Rattle.std.proofs.Common.{List, ◌∷◌, Option, Some, None, refl, arith, sym, subst, ap, ◌∙◌}
use Rattle.star_trees.specs.declared.trees.BinOp.{BinOp}
use Rattle.star_grammar.specs.declared.symbols.Sign.{Sign}
use Rattle.star_grammar.specs.declared.symbols.Sign.TheVariants as s
use Rattle.star_grammar.specs.declared.symbols.Symbol.{Symbol}
use Rattle.star_grammar.specs.declared.bare_expressions.BareArg.{BareArg}
use Rattle.star_grammar.specs.declared.bare_expressions.BareClause.{BareClause}
use Rattle.star_grammar.specs.declared.bare_expressions.BareExpr as e
use Rattle.star_grammar.specs.declared.bare_expressions.BareExpr.{BareExpr}
use Rattle.star_grammar.specs.declared.bare_expressions.BarePair.{BarePair}
use Rattle.star_grammar.specs.declared.bare_expressions.BareParam.{BareParam}
use Rattle.star_grammar.specs.declared.bare_expressions.Level.{Level}
use Rattle.star_grammar.specs.declared.bare_expressions.Level.TheVariants as level
use Rattle.star_grammar.specs.Rules.{Rule, Deep, sign, word, deep, Repeated, One, Adds, Listed}
use Rattle.star_grammar.specs.Readers.{Reader, and_then, given, same_sign, sees, sees_word, behind}
use Rattle.star_grammar.specs.Readers.{turns, more, one, adds, closed}
use Rattle.star_grammar.specs.Operators as operators
use Rattle.star_grammar.specs.Operators.{operator}
use Rattle.star_grammar.specs.Expressions as g
use Rattle.star_grammar.specs.Expressions.{Tree}
use Rattle.star_grammar.specs.ExpressionReading as reading
use Rattle.star_grammar.proofs.Steps.{by_sign, by_word}
use Rattle.star_grammar.proofs.Fronts.{force, sign_force, sign_class, unforced, unopened, unworded}
use Rattle.star_grammar.proofs.Fronts.{untabled, untabled_front, operator-arithmetic, operator-and}
use Rattle.star_grammar.proofs.Fronts.{operator-or, comparison-force, prefix-class, negation-class}
use Rattle.star_grammar.proofs.Shrinks as shrinks
use Rattle.star_grammar.proofs.Shrinks.{Shrinks, Takes}
use Rattle.star_grammar.proofs.Openings as opens
use Rattle.star_grammar.proofs.Openings.{Opens, opening}
use Rattle.star_grammar.proofs.Loops.{then-is, Complete, IsTurn, IsItem, Repeated-read, Series-read}
use Rattle.star_grammar.proofs.Loops.{Closed-read}

-- what comes next binds what stands before it less tightly than this
abbrev pub Ends : ℕ → List Symbol → Type 0
Ends n i = n < force i

-- and is no comma
abbrev pub Alone : ℕ → List Symbol → Type 0
Alone n i = (n < force i) × (sees s.Comma i ≡ false)

-- whatever comes next
abbrev pub Always : List Symbol → Type 0
Always i = Unit {0}

pub checked-is : {B : Type 0} {holds : Bool}
    (next : Unit {0} → Reader B) {i : List Symbol} {b : Option (B × List Symbol)}
    → holds ≡ true
    → next tt i ≡ b
    → and_then (cond holds (Some (tt, i)) None) next ≡ b
checked-is next {i} e so = rw e so

pub given-is : {A : Type 0} {o : Option A} {a : A} (i : List Symbol)
    → o ≡ Some a
    → given o i ≡ Some (a, i)
given-is {A} i e = ap (λ (o : Option A). given o i) e

-- the first item of an expression, and that the expression is read behind it
pub record ExpressionRead (item : Reader Tree) (Item : Rule Tree) (Stop : List Symbol → Type 0)
    (i : List Symbol) (a : Tree) (r : List Symbol) : Type 0 where
  pub first : Tree
  pub rest : List Symbol
  pub stands : Item i first rest
  pub stops : Stop rest
  pub read : reading.rest_of_expression item first rest ≡ Some (a, r)

pub Expression-read : {item : Reader Tree} {Item : Rule Tree} {Stop : List Symbol → Type 0}
    → IsItem s.Comma None item Item Stop
    → (i : List Symbol) (a : Tree) (rest : List Symbol)
    → g.Expression Item i a rest
    → Stop rest
    → sees s.Comma rest ≡ false
    → ExpressionRead item Item Stop i a rest
unfolding reading.rest_of_expression
Expression-read listed i a rest (g.Expression.listed {items} so known) stops alone =
    let all = Series-read listed i items rest so stops alone in
    record {
      first = all.first;
      rest = all.rest;
      stands = all.stands;
      stops = all.stops;
      read =
          then-is _ all.read (given-is rest known);
    }

pub expression-complete : (n : ℕ)
    → n < 12
    → (item : Reader Tree) (Item : Rule Tree)
    → Complete (Ends n) item Item
    → Shrinks Item
    → Complete (Alone n) (reading.expression item) (g.Expression Item)
unfolding reading.expression
expression-complete n low item Item complete smaller i a rest so stops =
    let all = Expression-read
    (record {
      complete = complete;
      opens = λ i a r so. refl;
      between_stops = λ l i. low;
      shrinks
          = smaller;
    }) i a rest so stops.0 stops.1 in
    then-is _ (complete i all.first all.rest all.stands all.stops) all.read

pub vars-complete : (n : ℕ)
    → n < 12
    → (item : Reader Tree) (Item : Rule Tree)
    → Complete (Ends n) item Item
    → Shrinks Item
    → Complete (Alone n) (reading.vars item) (g.Vars Item)
unfolding reading.vars
vars-complete n low item Item complete smaller i a rest (g.Vars.targets so target) stops = then-is _
    (expression-complete n low item Item complete smaller i a rest so stops)
    (checked-is _ target refl)

rest_in : {A : Type 0} → List Symbol → Option (A × List Symbol) → List Symbol
rest_in other None = other
rest_in other (Some found) = found.1

rest-same : {A : Type 0} (a b : A) (i j : List Symbol)
    → ◌≡◌ {A = Option (A × List Symbol)} (Some (a, i)) (Some (b, j))
    → i ≡ j
unfolding rest_in
rest-same a b i j e = ap (rest_in i) e

-- wherever an item stands, a name is one
abbrev pub Names : Rule Tree → Type 0
Names Item = (i : List Symbol) (a : Tree) (r : List Symbol)
    → Item i a r
    → (called : List ℕ) (l : ℕ) (j : List Symbol)
    → Item (word called l ∷ j) (e.Name (record { name = called; line = l }), 1) j

-- what a Test that relates gives, and what begins it
pub record IsTest (item : Reader Tree) (Item : Rule Tree) : Type 0 where
  pub complete : Complete (Ends 10) item Item
  pub opens : Opens 3 Item
  pub shrinks : Shrinks Item
  pub names : Names Item

-- ---- rules over one Test

module _ {item : Reader Tree} {Item : Rule Tree} (tests : IsTest item Item) where
  param-complete : Complete (Ends 11) (reading.param item) (g.Param Item)
  unfolding reading.param reading.named_param reading.rest_param reading.keywords_param same_sign
  param-complete i a r g.Param.required stops = rw (unforced s.Assign 11 (omega arith) r stops) refl
  param-complete i a r (g.Param.optional {i = j} {a = b} so) stops = then-is _
      (tests.complete j b r so (omega arith)) refl
  param-complete i a r g.Param.bare stops = rw (unworded r (omega arith)) refl
  param-complete i a r g.Param.rest stops = refl
  param-complete i a r g.Param.keywords stops = refl

  param-unseen : (close : Sign)
      → 4 < sign_class close
      → (i : List Symbol) (a : Deep BareParam) (r : List Symbol)
      → g.Param Item i a r
      → sees close i ≡ false
  param-unseen close high i a r so = unopened close 4 high i (opens.Param-opens Item i a r so)

  -- parameters before the colon of a `lambda`, and before a closing bracket
  lambda_item : IsItem s.Comma None (reading.param item) (g.Param Item) (Ends 11)
  lambda_item = record {
    complete = param-complete;
    opens = λ i a r so. refl;
    between_stops = λ l i. omega arith;
    shrinks = shrinks.Param-shrinks Item tests.shrinks;
  }

  param_item : IsItem s.Comma (Some s.RightRound) (reading.param item) (g.Param Item) (Ends 11)
  param_item = record {
    complete = param-complete;
    opens = param-unseen s.RightRound
        (omega arith);
    between_stops = λ l i. omega arith;
    shrinks = shrinks.Param-shrinks Item
        tests.shrinks;
  }

  pub signature-complete : Complete Always (reading.signature item) (g.Signature Item)
  unfolding reading.signature reading.more_params same_sign
  signature-complete i a r g.Signature.none stops = refl
  signature-complete i a r (g.Signature.some {l} so) stops =
      let all = Series-read lambda_item i a _ so (omega arith) refl in
      rw (param-unseen s.Colon (omega arith) i all.first all.rest all.stands)
      (then-is _ (param-complete i all.first all.rest all.stands all.stops)
      (then-is _ all.read refl))

  pub listed_params-complete : Complete Always (reading.listed_params item)
      (Listed s.RightRound (g.Param Item))
  unfolding reading.listed_params reading.more_params same_sign
  listed_params-complete i a r Listed.none stops = refl
  listed_params-complete i a r (Listed.some so) stops =
      let all = Closed-read param_item refl (λ l i. omega arith) i a r so in
      rw (param-unseen s.RightRound (omega arith) i all.first all.rest all.stands)
      (then-is _ (param-complete i all.first all.rest all.stands all.stops)
      (then-is _ all.read (then-is _ all.ends refl)))

  -- an item is a name before `=` only where `=` stands behind it
  named-item : (called : List ℕ) (l m : ℕ) (j : List Symbol) (a : Tree) (r : List Symbol)
      → Item (word called l ∷ sign s.Assign m ∷ j) a r
      → Ends 11 r
      → ⊥
  named-item called l m j a r so stops =
      let one = tests.complete _ a r so (omega arith) in
      let other = tests.complete _ _ _ (tests.names _ a r so called l (sign s.Assign m ∷ j))
      (omega arith) in
      let same : r ≡ sign s.Assign m ∷ j = rest-same a _ r (sign s.Assign m ∷ j) (sym one ∙
      other) in
      let over : 11 < force (sign s.Assign m ∷ j) = subst
      (λ (r : List Symbol). 11 < force r) same stops in
      absurd (omega arith)

  no-argument_name : (i : List Symbol) (a : Tree) (r : List Symbol)
      → Item i a r
      → Ends 11 r
      → reading.sees_argument_name i ≡ false
  no-argument_name i a r so stops =
      by_word (λ i. Item i a r → (sees_word i && sees s.Assign (behind i)) ≡ false)
      (λ called l j so. by_sign s.Assign
      (λ j. Item (word called l ∷ j) a r → sees s.Assign j ≡ false)
      (λ m k so. absurd (named-item called l m k a r so stops)) j (λ un _. un) so) i
      (λ un _. rw un refl) so

  arg-complete : Complete (Ends 11) (reading.arg item) (g.Arg Item)
  unfolding reading.arg reading.named_arg reading.star_arg reading.double_star_arg
      reading.positional_arg same_sign
  arg-complete i a r (g.Arg.positional {a = b} so) stops =
      let under = tests.opens i b r so in
      rw (unopened s.Star 3 (omega arith) i under)
      (rw (unopened s.StarStar 3 (omega arith) i under)
      (rw (no-argument_name i b r so stops)
      (then-is _ (tests.complete i b r so (omega arith)) refl)))
  arg-complete i a r (g.Arg.named {i = j} {a = b} so) stops = then-is _
      (tests.complete j b r so (omega arith)) refl
  arg-complete i a r (g.Arg.star {i = j} {a = b} so) stops = then-is _
      (tests.complete j b r so (omega arith)) refl
  arg-complete i a r (g.Arg.double_star {i = j} {a = b} so) stops = then-is _
      (tests.complete j b r so (omega arith)) refl

  arg-unseen : (i : List Symbol) (a : Deep BareArg) (r : List Symbol)
      → g.Arg Item i a r
      → sees s.RightRound i ≡ false
  arg-unseen i a r so = unopened s.RightRound 4 (omega arith) i
      (opens.Arg-opens Item tests.opens i a r so)

  arg_item : IsItem s.Comma (Some s.RightRound) (reading.arg item) (g.Arg Item) (Ends 11)
  arg_item = record {
    complete = arg-complete;
    opens = arg-unseen;
    between_stops = λ l i. omega
        arith;
    shrinks = shrinks.Arg-shrinks Item tests.shrinks;
  }

  pub listed_args-complete : Complete Always (reading.listed_args item)
      (Listed s.RightRound (g.Arg Item))
  unfolding reading.listed_args reading.more_args same_sign
  listed_args-complete i a r Listed.none stops = refl
  listed_args-complete i a r (Listed.some so) stops =
      let all = Closed-read arg_item refl (λ l i. omega arith) i a r so in
      rw (arg-unseen i all.first all.rest all.stands)
      (then-is _ (arg-complete i all.first all.rest all.stands all.stops)
      (then-is _ all.read (then-is _ all.ends refl)))

-- ---- what nests

-- what stands behind an expression of each level binds less tightly
abbrev pub tightness : Level → ℕ
tightness level.Primary = 0
tightness level.Unary = 0
tightness level.Negation = 7
tightness level.Disjunction = 9
tightness level.Test = 10

-- what each level of what nests gives, and what begins it
pub record IsNested (nested : Level → Reader Tree) (Nested : Level → Rule Tree) : Type 0 where
  pub complete : (what : Level) → Complete (Ends (tightness what)) (nested what) (Nested what)
  pub opens : (what : Level) → Opens (opening what) (Nested what)
  pub shrinks : (what : Level) → Shrinks (Nested what)
  pub names : Names (Nested level.Test)

pub nested-tests : {nested : Level → Reader Tree} {Nested : Level → Rule Tree}
    → IsNested nested Nested
    → IsTest (nested level.Test) (Nested level.Test)
nested-tests nests = record {
  complete = nests.complete level.Test;
  opens = nests.opens level.Test;
  shrinks = nests.shrinks
      level.Test;
  names = nests.names;
}

module _ (nested : Level → Reader Tree) (Nested : Level → Rule Tree)
    (nests : IsNested nested Nested) where
  abbrev tests : IsTest (nested level.Test) (Nested level.Test)
  tests = nested-tests nests

  -- no closing sign begins a Test
  test-unseen : (close : Sign)
      → 3 < sign_class close
      → (i : List Symbol) (a : Tree) (r : List Symbol)
      → Nested level.Test i a r
      → sees close i ≡ false
  test-unseen close high i a r so = unopened close 3 high i (tests.opens i a r so)

  for_clause-complete : Complete (Ends 9) (reading.for_clause nested) (g.ForClause Nested)
  unfolding reading.for_clause same_sign
  for_clause-complete i a r (g.ForClause.loop {i = j} {j = k} {m} {to} {over} so also) stops =
      then-is _
      (vars-complete 0 (omega arith) (nested level.Primary) (Nested level.Primary)
      (nests.complete level.Primary) (nests.shrinks level.Primary) j to (sign s.In m ∷ k) so
      (omega arith, refl))
      (then-is _ (nests.complete level.Disjunction k over r also stops) refl)

  any_clause-complete : Complete (Ends 9) (reading.any_clause nested) (g.AnyClause Nested)
  unfolding reading.any_clause reading.if_clause same_sign
  any_clause-complete i a r (g.AnyClause.loop so) stops = rw (for_clause-opens i a r so)
      (for_clause-complete i a r so stops)
    where
      for_clause-opens : (i : List Symbol) (a : Deep BareClause) (r : List Symbol)
          → g.ForClause Nested i a r
          → sees s.For i ≡ true
      for_clause-opens i a r (g.ForClause.loop so also) = refl
  any_clause-complete i a r (g.AnyClause.test {i = j} {a = b} so) stops = then-is _
      (nests.complete level.Disjunction j b r so stops) refl

  clause_turn : IsTurn (Adds (g.AnyClause Nested)) (Ends 9) (reading.begins_clause nested)
      (adds (reading.any_clause nested))
  unfolding same_sign
  clause_turn = record {
    complete = complete;
    opens = begun;
    takes = shrinks.Adds-takes
        (g.AnyClause Nested) (shrinks.AnyClause-takes Nested nests.shrinks);
  }
    where
      complete : (items : Deep (List BareClause))
          → Complete (Ends 9) (adds (reading.any_clause nested) items)
          (Adds (g.AnyClause Nested) items)
      complete items i b r (Adds.adds {a} so) stops = then-is _
          (any_clause-complete i a r so stops) refl

      begun : (items : Deep (List BareClause)) (i : List Symbol) (b : Deep (List BareClause))
          (r : List Symbol)
          → Adds (g.AnyClause Nested) items i b r
          → Ends 9 i × (reading.begins_clause nested i ≡ true)
      begun items i b r (Adds.adds (g.AnyClause.loop (g.ForClause.loop _ _))) = (omega arith, refl)
      begun items i b r (Adds.adds (g.AnyClause.test _)) = (omega arith, refl)

  comp-complete : (i : List Symbol) (a : Deep (List BareClause)) (r : List Symbol)
      → g.Comp Nested i a r
      → Ends 9 r
      → reading.begins_clause nested r ≡ false
      → reading.comp nested i ≡ Some (a, r)
  unfolding reading.comp
  comp-complete i a r so stops none =
      let all = Repeated-read (One (g.ForClause Nested)) clause_turn i a r so stops none in
      from_one all.start all.rest all.stands all.stops all.read
    where
      from_one : (start : Deep (List BareClause)) (rest : List Symbol)
          → One (g.ForClause Nested) i start rest
          → Ends 9 rest
          → turns (reading.begins_clause nested) (adds (reading.any_clause nested)) start rest
          ≡ Some (a, r)
          → reading.comp nested i ≡ Some (a, r)
      from_one start rest (One.one {a = first} so) stops read = then-is _
          (for_clause-complete i first rest so stops) read

  comp-opens : (i : List Symbol) (a : Deep (List BareClause)) (r : List Symbol)
      → g.Comp Nested i a r
      → (sees s.For i ≡ true) × Ends 10 i
  unfolding same_sign
  comp-opens i a r (Repeated.begins (One.one (g.ForClause.loop _ _))) = (refl, omega arith)
  comp-opens i a r (Repeated.goes {j} {a = b} so _) = comp-opens i b j so

  entry-complete : Complete (Ends 10) (reading.entry nested) (g.Entry (Nested level.Test))
  unfolding reading.entry same_sign
  entry-complete i a r (g.Entry.entry {j} {l} {key} {value} so also) stops = then-is _
      (tests.complete i key (sign s.Colon l ∷ j) so (omega arith))
      (then-is _ (tests.complete j value r also stops) refl)

  -- no clause comes next
  abbrev Clauseless : List Symbol → Type 0
  Clauseless i = (10 < force i) × (sees s.For i ≡ false)

  square_item : IsItem s.Comma (Some s.RightSquare) (nested level.Test)
      (Nested level.Test) Clauseless
  unfolding same_sign
  square_item = record {
    complete = λ i a r so stops. tests.complete i a r so stops.0;
    opens = test-unseen
        s.RightSquare (omega arith);
    between_stops = λ l i.
        (omega arith, refl);
    shrinks = tests.shrinks;
  }

  square-list : (i : List Symbol) (items : Deep (List BareExpr)) (a : Tree) (r : List Symbol)
      → Listed s.RightSquare (Nested level.Test) i items r
      → deep (e.List items.0) items.1 ≡ Some a
      → reading.square nested i ≡ Some (a, r)
  unfolding reading.square reading.list_of same_sign
  square-list i items a r Listed.none known = given-is r known
  square-list i items a r (Listed.some so) known =
      let all = Closed-read square_item refl (λ l i. (omega arith, refl)) i items r so in
      rw (test-unseen s.RightSquare (omega arith) i all.first all.rest all.stands)
      (then-is _ (tests.complete i all.first all.rest all.stands all.stops.0)
      (rw all.stops.1 (then-is _ all.read (then-is _ all.ends (given-is r known)))))

  square-comp : (i : List Symbol) (item : Tree) (j : List Symbol) (clauses : Deep (List BareClause))
      (m : ℕ) (a : Tree) (r : List Symbol) → Nested level.Test i item j
      → g.Comp Nested j clauses (sign s.RightSquare m ∷ r)
      → deep (e.ListComp item.0 clauses.0) (max item.1 clauses.1) ≡ Some a
      → reading.square nested i ≡ Some (a, r)
  unfolding reading.square reading.list_comp same_sign
  square-comp i item j clauses m a r so also known =
      let opened = comp-opens j clauses _ also in
      rw (test-unseen s.RightSquare (omega arith) i item j so)
      (then-is _ (tests.complete i item j so opened.1)
      (rw opened.0 (then-is _ (comp-complete j clauses (sign s.RightSquare m ∷ r) also (omega
      arith) refl) (given-is r known))))

  entry_item : IsItem s.Comma (Some s.RightCurly) (reading.entry nested)
      (g.Entry (Nested level.Test)) Clauseless
  unfolding same_sign
  entry_item = record {
    complete = λ i a r so stops. entry-complete i a r so stops.0;
    opens = λ i a
        r so. unopened s.RightCurly 3 (omega arith) i
        (opens.Entry-opens (Nested level.Test) tests.opens i a r so);
    between_stops = λ l i.
        (omega arith, refl);
    shrinks = shrinks.Entry-shrinks (Nested level.Test) tests.shrinks;
  }

  curly-dict : (i : List Symbol) (pairs : Deep (List BarePair)) (a : Tree) (r : List Symbol)
      → Listed s.RightCurly (g.Entry (Nested level.Test)) i pairs r
      → deep (e.Dict pairs.0) pairs.1 ≡ Some a
      → reading.curly nested i ≡ Some (a, r)
  unfolding reading.curly reading.dict_of same_sign
  curly-dict i pairs a r Listed.none known = given-is r known
  curly-dict i pairs a r (Listed.some so) known =
      let all = Closed-read entry_item refl (λ l i. (omega arith, refl)) i pairs r so in
      begun all.first all.rest all.end all.stands all.stops all.read all.ends
    where
      begun : (first : Deep BarePair) (rest end : List Symbol)
          → g.Entry (Nested level.Test) i first rest
          → Clauseless rest
          → more s.Comma (Some s.RightCurly) (reading.entry nested) (one first) rest
          ≡ Some (pairs, end) → closed s.Comma s.RightCurly end ≡ Some (tt, r)
          → reading.curly nested i ≡ Some (a, r)
      begun first rest end (g.Entry.entry {j} {l} {key} {value} so also) stops read ends =
          rw (test-unseen s.RightCurly (omega arith) i key (sign s.Colon l ∷ j) so)
          (then-is _ (tests.complete i key (sign s.Colon l ∷ j) so (omega arith))
          (then-is _ (tests.complete j value rest also stops.0)
          (rw stops.1 (then-is _ read (then-is _ ends (given-is r known))))))

  curly-comp : (i : List Symbol) (key : Tree) (m : ℕ) (j : List Symbol) (value : Tree)
      (k : List Symbol) (clauses : Deep (List BareClause)) (n : ℕ) (a : Tree) (r : List Symbol)
      → Nested level.Test i key (sign s.Colon m ∷ j)
      → Nested level.Test j value k
      → g.Comp Nested k clauses (sign s.RightCurly n ∷ r)
      → deep (e.DictComp key.0 value.0 clauses.0) (max (max key.1 value.1) clauses.1) ≡ Some a
      → reading.curly nested i ≡ Some (a, r)
  unfolding reading.curly reading.dict_comp same_sign
  curly-comp i key m j value k clauses n a r so also more known =
      let opened = comp-opens k clauses _ more in
      rw (test-unseen s.RightCurly (omega arith) i key (sign s.Colon m ∷ j) so)
      (then-is _ (tests.complete i key (sign s.Colon m ∷ j) so (omega arith))
      (then-is _ (tests.complete j value k also opened.1)
      (rw opened.0 (then-is _ (comp-complete k clauses (sign s.RightCurly n ∷ r) more (omega
      arith) refl) (given-is r known)))))

  round_item : IsItem s.Comma (Some s.RightRound) (nested level.Test) (Nested level.Test) (Ends 10)
  round_item = record {
    complete = tests.complete;
    opens = test-unseen s.RightRound
        (omega arith);
    between_stops = λ l i. omega arith;
    shrinks = tests.shrinks;
  }

  operand-complete : Complete Always (reading.operand nested) (g.Operand Nested)
  unfolding reading.operand reading.round reading.round_of reading.atom same_sign
  operand-complete i a r g.Operand.name stops = refl
  operand-complete i a r g.Operand.integer stops = refl
  operand-complete i a r g.Operand.text stops = refl
  operand-complete i a r
      (g.Operand.list {i = j} {items} so known) stops = square-list j items a r so known
  operand-complete i a r
      (g.Operand.list_comp {i = j} {j = k} {m} {item} {clauses} so also known) stops = square-comp j
      item k clauses m a r so also known
  operand-complete i a r
      (g.Operand.dict {i = j} {pairs} so known) stops = curly-dict j pairs a r so known
  operand-complete i a r
      (g.Operand.dict_comp {i = h} {j} {k} {m} {n} {key} {value} {clauses} so also more known) stops
      = curly-comp h key m j value k clauses n a r so also more known
  operand-complete i a r (g.Operand.empty known) stops = given-is r known
  operand-complete i a r (g.Operand.round {i = j} {m} {items} so known) stops =
      let all = Series-read round_item j items (sign s.RightRound m ∷ r) so (omega arith) refl in
      rw (test-unseen s.RightRound (omega arith) j all.first all.rest all.stands)
      (then-is _ (tests.complete j all.first all.rest all.stands all.stops)
      (then-is _ all.read (given-is r known)))
  operand-complete i a r (g.Operand.tuple {i = j} {m} {n} {items} so known) stops =
      let all = Series-read round_item j items (sign s.Comma m ∷ sign s.RightRound n ∷ r) so
      (omega arith) refl in
      rw (test-unseen s.RightRound (omega arith) j all.first all.rest all.stands)
      (then-is _ (tests.complete j all.first all.rest all.stands all.stops)
      (then-is _ all.read (given-is r known)))

  -- ---- suffixes

  bound-complete : (i : List Symbol) (a : Deep (Option BareExpr)) (r : List Symbol)
      → g.Bound (Nested level.Test) i a r
      → (sees s.Colon r || sees s.RightSquare r) ≡ true
      → Ends 10 r
      → reading.bound nested i ≡ Some (a, r)
  unfolding reading.bound
  bound-complete i a r g.Bound.absent met stops = rw met refl
  bound-complete i a r (g.Bound.present {a = b} so) met stops =
      rw (test-unseen s.Colon (omega arith) i b r so)
      (rw (test-unseen s.RightSquare (omega arith) i b r so)
      (then-is _ (tests.complete i b r so stops) refl))

  step-complete : (i : List Symbol) (a : Deep (Option BareExpr)) (n : ℕ) (r : List Symbol)
      → g.Step (Nested level.Test) i a (sign s.RightSquare n ∷ r)
      → reading.step nested i ≡ Some (a, sign s.RightSquare n ∷ r)
  unfolding reading.step same_sign
  step-complete i a n r g.Step.absent = refl
  step-complete i a n r (g.Step.present {i = j} so) = bound-complete j a
      (sign s.RightSquare n ∷ r) so refl (omega arith)

  step-opens : (i : List Symbol) (a : Deep (Option BareExpr)) (n : ℕ) (r : List Symbol)
      → g.Step (Nested level.Test) i a (sign s.RightSquare n ∷ r)
      → ((sees s.Colon i || sees s.RightSquare i) ≡ true) × Ends 10 i
  unfolding same_sign
  step-opens i a n r g.Step.absent = (refl, omega arith)
  step-opens i a n r (g.Step.present so) = (refl, omega arith)

  slice-complete : (of : Tree) (begin : Deep (Option BareExpr)) (m : ℕ) (j : List Symbol)
      (end : Deep (Option BareExpr)) (k : List Symbol) (by : Deep (Option BareExpr)) (n : ℕ)
      (a : Tree) (r : List Symbol)
      → g.Bound (Nested level.Test) j end k
      → g.Step (Nested level.Test) k by (sign s.RightSquare n ∷ r)
      → deep (e.Slice of.0 begin.0 end.0 by.0) (max of.1 (max begin.1 (max end.1 by.1))) ≡ Some a
      → reading.slice nested of begin (sign s.Colon m ∷ j) ≡ Some (a, r)
  unfolding reading.slice same_sign
  slice-complete of begin m j end k by n a r so also known =
      let opened = step-opens k by n r also in
      then-is _ (bound-complete j end k so opened.0 opened.1)
      (then-is _ (step-complete k by n r also) (given-is r known))

  subscript-slice : (of : Tree) (i : List Symbol) (begin : Deep (Option BareExpr)) (m : ℕ)
      (j : List Symbol) (found : Option (Tree × List Symbol))
      → g.Bound (Nested level.Test) i begin (sign s.Colon m ∷ j)
      → reading.slice nested of begin (sign s.Colon m ∷ j) ≡ found
      → reading.subscript nested of i ≡ found
  unfolding reading.subscript reading.begun_subscript same_sign
  subscript-slice of i begin m j found g.Bound.absent same = same
  subscript-slice of i begin m j found (g.Bound.present {a} so) same = rw
      (test-unseen s.Colon (omega arith) i a _ so)
      (then-is _ (tests.complete i a (sign s.Colon m ∷ j) so (omega arith)) same)

  -- no slice goes on
  abbrev Sliceless : List Symbol → Type 0
  Sliceless i = (10 < force i) × (sees s.Colon i ≡ false)

  sliceless_item : IsItem s.Comma None (nested level.Test) (Nested level.Test) Sliceless
  unfolding same_sign
  sliceless_item = record {
    complete = λ i a r so stops. tests.complete i a r so stops.0;
    opens = λ i a r so. refl;
    between_stops = λ l i. (omega arith, refl);
    shrinks = tests.shrinks;
  }

  subscript-index : (of : Tree) (i : List Symbol) (at : Tree) (m : ℕ) (a : Tree) (r : List Symbol)
      → g.Expression (Nested level.Test) i at (sign s.RightSquare m ∷ r)
      → deep (e.Index of.0 at.0) (max of.1 at.1) ≡ Some a
      → reading.subscript nested of i ≡ Some (a, r)
  unfolding reading.subscript reading.begun_subscript reading.index same_sign
  subscript-index of i at m a r so known =
      let all = Expression-read sliceless_item i at (sign s.RightSquare m ∷ r) so
      (omega arith, refl) refl in
      rw (test-unseen s.Colon (omega arith) i all.first all.rest all.stands)
      (then-is _ (tests.complete i all.first all.rest all.stands all.stops.0)
      (rw all.stops.1 (then-is _ all.read (given-is r known))))

  suffix-complete : (of : Tree) → Complete Always (reading.suffix nested of) (g.Suffix Nested of)
  unfolding reading.suffix reading.attr reading.call same_sign
  suffix-complete of i a r (g.Suffix.attr known) stops = given-is r known
  suffix-complete of i a r (g.Suffix.call {i = j} {args} so ordered known) stops = then-is _
      (listed_args-complete tests j args r so tt) (checked-is _ ordered (given-is r known))
  suffix-complete of i a r
      (g.Suffix.index {i = j} {m} {at} so known) stops = subscript-index of j at m a r so known
  suffix-complete of i a r
      (g.Suffix.slice {i = h} {j} {k} {m} {n} {begin} {end} {step} so also more known) stops =
      subscript-slice of h begin m j (Some (a, r)) so
      (slice-complete of begin m j end k step n a r also more known)

  suffix_turn : IsTurn (g.Suffix Nested) Always (reading.begins_suffix nested)
      (reading.suffix nested)
  unfolding same_sign
  suffix_turn = record {
    complete = suffix-complete;
    opens = begun;
    takes = shrinks.Suffix-takes Nested nests.shrinks;
  }
    where
      begun : (of : Tree) (i : List Symbol) (b : Tree) (r : List Symbol)
          → g.Suffix Nested of i b r
          → Always i × (reading.begins_suffix nested i ≡ true)
      begun of i b r (g.Suffix.attr _) = (tt, refl)
      begun of i b r (g.Suffix.call _ _ _) = (tt, refl)
      begun of i b r (g.Suffix.index _ _) = (tt, refl)
      begun of i b r (g.Suffix.slice _ _ _ _) = (tt, refl)

  suffixless : (r : List Symbol) → Ends 0 r → reading.begins_suffix nested r ≡ false
  suffixless r stops = rw (unforced s.Dot 0 (omega arith) r stops)
      (rw (unforced s.LeftRound 0 (omega arith) r stops)
      (rw (unforced s.LeftSquare 0 (omega arith) r stops) refl))

  primary-complete : Complete (Ends 0) (reading.primary nested) (g.Primary Nested)
  unfolding reading.primary
  primary-complete i a r so stops =
      let all = Repeated-read (g.Operand Nested) suffix_turn i a r so tt (suffixless r stops) in
      then-is _ (operand-complete i all.start all.rest all.stands tt) all.read

  -- ---- operators

  unary-complete : Complete (Ends 0) (reading.unary nested) (g.Unary Nested)
  unfolding reading.unary reading.prefixed
  unary-complete i a r (g.Prefixed.plain so) stops = rw
      (untabled_front operators.prefix 0
      (λ what op known. let same = prefix-class what op known in omega arith) i
      (opens.Primary-opens Nested i a r so)) (primary-complete i a r so stops)
  unary-complete i a r (g.Prefixed.prefixed {i = j} {a = b} table so known) stops = rw table
      (then-is _ (nests.complete level.Unary j b r so stops) (given-is r known))

  module _ (binary n m : ℕ) (tight : n < m) (tighter : Reader Tree) (Tighter : Rule Tree)
      (tighter-complete : Complete (Ends n) tighter Tighter) (tighter-shrinks : Shrinks Tighter)
      (operator-force : (what : Sign) (op : BinOp)
      → operator binary what ≡ Some op
      → sign_force what ≡ m) where
    operation_turn : IsTurn (g.Operation binary Tighter) (Ends n)
        (reading.begins_operation nested binary) (reading.operation nested binary tighter)
    unfolding reading.operated
    operation_turn = record {
      complete = complete;
      opens = begun;
      takes = shrinks.Operation-takes Nested nests.shrinks
          binary Tighter tighter-shrinks;
    }
      where
        complete : (left : Tree)
            → Complete (Ends n) (reading.operation nested binary tighter left)
            (g.Operation binary Tighter left)
        complete left i a r (g.Operation.operation {i = j} {right} table so known) stops = rw table
            (then-is _ (tighter-complete j right r so stops) (given-is r known))

        begun : (left : Tree) (i : List Symbol) (b : Tree) (r : List Symbol)
            → g.Operation binary Tighter left i b r
            → Ends n i × (reading.begins_operation nested binary i ≡ true)
        begun left i b r (g.Operation.operation {what} {op} table so known) = let bound =
            operator-force what op table in (omega arith, rw table refl)

    operationless : (r : List Symbol) → Ends m r → reading.begins_operation nested binary r ≡ false
    operationless r stops = rw
        (untabled (operator binary) m
        (λ what op known. let same = operator-force what op known in omega arith) r stops) refl

    chain-complete : Complete (Ends m) (reading.chain nested binary tighter)
        (g.Chain binary Tighter)
    chain-complete i a r so stops =
        let all = Repeated-read Tighter operation_turn i a r so (omega arith)
        (operationless r stops) in
        then-is _ (tighter-complete i all.start all.rest all.stands all.stops) all.read

  arithmetic-complete : (binary : ℕ)
      → binary ≤ 6
      → Complete (Ends binary) (reading.arithmetic nested binary) (g.Arithmetic Nested binary)
  unfolding reading.arithmetic g.Arithmetic
  arithmetic-complete zero low = unary-complete
  arithmetic-complete (suc binary) low =
      chain-complete binary binary (suc binary) (omega arith) (reading.arithmetic nested binary)
      (g.Arithmetic Nested binary) (arithmetic-complete binary (omega arith))
      (shrinks.Arithmetic-shrinks Nested nests.shrinks binary)
      (operator-arithmetic binary (omega arith))

  sum-complete : Complete (Ends 6) (reading.arithmetic nested 6) (g.Arithmetic Nested 6)
  sum-complete = arithmetic-complete 6 (omega arith)

  comparison-complete : Complete (Ends 7) (reading.comparison nested)
      (g.Comparison (g.Arithmetic Nested 6))
  unfolding reading.comparison reading.operated reading.outside same_sign
  comparison-complete i a r (g.Comparison.plain so) stops = then-is _
      (sum-complete i a r so (omega arith))
      (rw (untabled operators.comparison 7
      (λ what op known. let same = comparison-force what op known in omega arith) r stops)
      (rw (unforced s.Not 7 (omega arith) r stops) refl))
  comparison-complete i a r
      (g.Comparison.compared {j} {what} {l} {op} {left} {right} so table also known) stops =
      let same = comparison-force what op table in
      then-is _ (sum-complete i left (sign what l ∷ j) so (omega arith))
      (rw table (then-is _ (sum-complete j right r also (omega arith)) (given-is r known)))
  comparison-complete i a r
      (g.Comparison.outside {j} {l} {m} {left} {right} so also known) stops = then-is _
      (sum-complete i left (sign s.Not l ∷ sign s.In m ∷ j) so (omega arith))
      (then-is _ (sum-complete j right r also (omega arith)) (given-is r known))

  negation-complete : Complete (Ends 7) (reading.negation nested) (g.Negation Nested)
  unfolding reading.negation reading.prefixed
  negation-complete i a r (g.Prefixed.plain so) stops = rw
      (untabled_front operators.negation 1
      (λ what op known. let same = negation-class what op known in omega arith) i
      (opens.Comparison-opens Nested i a r so)) (comparison-complete i a r so stops)
  negation-complete i a r (g.Prefixed.prefixed {i = j} {a = b} table so known) stops = rw table
      (then-is _ (nests.complete level.Negation j b r so stops) (given-is r known))

  disjunction-complete : Complete (Ends 9) (reading.disjunction nested) (g.Disjunction Nested)
  unfolding reading.disjunction reading.conjunction
  disjunction-complete =
      chain-complete 7 8 9 (omega arith) (reading.chain nested 6 (reading.negation nested))
      (g.Chain 6 (g.Negation Nested))
      (chain-complete 6 7 8 (omega arith) (reading.negation nested)
      (g.Negation Nested) negation-complete
      (shrinks.Negation-shrinks Nested nests.shrinks) operator-and)
      (shrinks.Conjunction-shrinks Nested nests.shrinks) operator-or

  test-complete : Complete (Ends 10) (reading.any_test nested) (g.Test Nested)
  unfolding reading.any_test reading.plain_test reading.conditional reading.lambda same_sign
  test-complete i a r (g.Test.plain so) stops = rw
      (unopened s.Lambda 2 (omega arith) i (opens.Disjunction-opens Nested i a r so))
      (then-is _ (disjunction-complete i a r so (omega arith))
      (rw (unforced s.If 10 (omega arith) r stops) refl))
  test-complete i a r (g.Test.cond {j} {k} {l} {m} {then = chosen} {test} {other} so also more
      known) stops =
      rw (unopened s.Lambda 2 (omega arith) i (opens.Disjunction-opens Nested i chosen _ so))
      (then-is _ (disjunction-complete i chosen (sign s.If l ∷ j) so (omega arith))
      (then-is _ (disjunction-complete j test (sign s.Else m ∷ k) also (omega arith))
      (then-is _ (tests.complete k other r more stops) (given-is r known))))
  test-complete i a r (g.Test.lambda {i = h} {j} {params} {body} so ordered also known) stops =
      then-is _ (signature-complete tests h params j so tt)
      (checked-is _ ordered (then-is _ (tests.complete j body r also stops) (given-is r known)))

  at-complete : (what : Level)
      → Complete (Ends (tightness what)) (reading.at nested what) (g.At Nested what)
  at-complete level.Primary = primary-complete
  at-complete level.Unary = unary-complete
  at-complete level.Negation = negation-complete
  at-complete level.Disjunction = disjunction-complete
  at-complete level.Test = test-complete

Spells-names : (nesting : ℕ) → Names (g.Spells nesting level.Test)
unfolding g.Spells g.Arithmetic
Spells-names zero i a r so called l j = absurd so
Spells-names (suc nesting) i a r so called l j = g.Test.plain
    (Repeated.begins (Repeated.begins (g.Prefixed.plain (g.Comparison.plain (Repeated.begins
    (Repeated.begins (Repeated.begins (Repeated.begins (Repeated.begins (Repeated.begins
    (g.Prefixed.plain (Repeated.begins g.Operand.name))))))))))))

-- expressions that are spelled are read
reads-complete : (nesting : ℕ) (what : Level)
    → Complete (Ends (tightness what)) (reading.reads nesting what) (g.Spells nesting what)
unfolding reading.reads g.Spells
reads-complete zero what i a r so stops = absurd so
reads-complete (suc nesting) what i a r so stops = at-complete (reading.reads nesting)
    (g.Spells nesting) (record {
      complete = reads-complete nesting;
      opens = opens.Spells-opens
          nesting;
      shrinks = shrinks.Spells-shrinks nesting;
      names = Spells-names nesting;
    }) what i a r so
    stops

pub Spells-nests : (nesting : ℕ) → IsNested (reading.reads nesting) (g.Spells nesting)
Spells-nests nesting = record {
  complete = reads-complete nesting;
  opens = opens.Spells-opens nesting;
  shrinks =
      shrinks.Spells-shrinks nesting;
  names = Spells-names nesting;
}
