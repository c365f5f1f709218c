-- A condition that each production of an expression keeps holds of each expression that is spelled.
use Rattle.std.proofs.Common.{◌≡◌, ℕ, zero, suc, ◌≤◌, max, true, List, [], ◌∷◌, ◌++◌, IfSome}
use Rattle.std.proofs.Common.{Option, Some, None, arith, subst}
use Rattle.std.proofs.lemmas.List.Elements.{All-head, All-nil}
use Rattle.star_conditions.proofs.Conditions.{Conditions, ExpressionsKeep, ForFirst}
use Rattle.star_conditions.proofs.SpelledParts.{Held, Reads, EachOf, deepened, each-deeper}
use Rattle.star_conditions.proofs.SpelledParts.{Repeated-held, One-held, Adds-held, Series-held}
use Rattle.star_conditions.proofs.SpelledParts.{Listed-held}
use Rattle.star_trees.specs.declared.trees.BinOp.{BinOp}
use Rattle.star_trees.specs.declared.trees.UnOp.{UnOp}
use Rattle.star_grammar.specs.declared.bare_expressions.BareClause.{BareClause}
use Rattle.star_grammar.specs.declared.bare_expressions.BareExpr as e
use Rattle.star_grammar.specs.declared.bare_expressions.BareExpr.{BareExpr}
use Rattle.star_grammar.specs.declared.bare_expressions.Level.{Level}
use Rattle.star_grammar.specs.declared.bare_expressions.Level.TheVariants as level
use Rattle.star_grammar.specs.declared.symbols.Sign.{Sign}
use Rattle.star_grammar.specs.declared.symbols.Sign.TheVariants as s
use Rattle.star_grammar.specs.Expressions as g
use Rattle.star_grammar.specs.Expressions.{Tree}
use Rattle.star_grammar.specs.Orders.{is_target}
use Rattle.star_grammar.specs.Rules.{Rule, Deep, deep, One, Adds}

-- a tree that meets a condition, which is of a target's form
pub record TargetHeld (holds : Conditions) (a : Tree) : Type 0 where
  pub held : Held holds.expr a
  pub target : is_target a.0 ≡ true

pub record ClausesHeld (holds : Conditions) (clauses : Deep (List BareClause)) : Type 0 where
  pub held : Held (EachOf holds.clause) clauses
  pub first : ForFirst clauses.0

for_first-behind : (clauses : List BareClause) (other : BareClause)
    → ForFirst clauses
    → ForFirst (clauses ++ other ∷ [])
for_first-behind clauses other ForFirst.for_first = ForFirst.for_first

module _ (holds : Conditions) (keep : ExpressionsKeep holds) where
  abbrev ExprHeld : Tree → Type 0
  ExprHeld = Held holds.expr

  joined-held : (items : Deep (List BareExpr)) (a : Tree)
      → g.joined items ≡ Some a
      → Held (EachOf holds.expr) items
      → ExprHeld a
  joined-held ([], depth) a is all = deepened holds.expr _ depth a is
      (λ _. keep.tuple depth _ all.so)
  joined-held ((one ∷ []), depth) a is all = subst (λ made. IfSome made ExprHeld) is
      (record { shallow = all.shallow; so = All-head (holds.expr depth) one [] all.so })
  joined-held ((one ∷ two ∷ more), depth) a is all = deepened holds.expr _ depth a is
      (λ _. keep.tuple depth _ all.so)

  bracketed-held : (items : Deep (List BareExpr)) (a : Tree)
      → g.bracketed items ≡ Some a
      → Held (EachOf holds.expr) items
      → ExprHeld a
  bracketed-held ([], depth) a is all = deepened holds.expr _ depth a is
      (λ _. keep.tuple depth _ all.so)
  bracketed-held ((one ∷ []), depth) a is all = deepened holds.expr _ depth a is
      (λ _. keep.bracketed depth one (All-head (holds.expr depth) one [] all.so))
  bracketed-held ((one ∷ two ∷ more), depth) a is all = deepened holds.expr _ depth a is
      (λ _. keep.tuple depth _ all.so)

  -- a part at the depth of the deepest one
  raised : (n m : ℕ) (tree : BareExpr) → n ≤ m → holds.expr n tree → holds.expr m tree
  raised = keep.deeper_expr

  module _ (item : Rule Tree) (item-held : Reads item ExprHeld) where
    pub Expression-held : Reads (g.Expression item) ExprHeld
    Expression-held i a r (g.Expression.listed {items} so is) = joined-held items a is
        (Series-held holds.expr keep.deeper_expr s.Comma item item-held i items r so)

    pub Vars-held : Reads (g.Vars item) (TargetHeld holds)
    Vars-held i a r (g.Vars.targets so is) = record { held = Expression-held i a r so; target = is }

    pub Param-held : Reads (g.Param item) (Held holds.param)
    Param-held i a r (g.Param.required {name}) = record {
      shallow = omega arith;
      so = keep.required
          name;
    }
    Param-held i a r (g.Param.optional {i = j} {name} {a = b} so) = let one = item-held j b r so in
        record { shallow = one.shallow; so = keep.optional b.1 name b.0 one.so }
    Param-held i a r (g.Param.bare {l}) = record { shallow = omega arith; so = keep.bare l }
    Param-held i a r (g.Param.rest {name} {l}) = record {
      shallow = omega arith;
      so = keep.rest name
          l;
    }
    Param-held i a r (g.Param.keywords {name} {l}) = record {
      shallow = omega arith;
      so =
          keep.keywords name l;
    }

    Signature-held : Reads (g.Signature item) (Held (EachOf holds.param))
    Signature-held i a r g.Signature.none = record {
      shallow = omega arith;
      so = All-nil
          (holds.param 0);
    }
    Signature-held i a r (g.Signature.some so) = Series-held holds.param keep.deeper_param s.Comma
        (g.Param item) Param-held i a _ so

    Arg-held : Reads (g.Arg item) (Held holds.arg)
    Arg-held i a r (g.Arg.positional {a = b} so) = let one = item-held i b r so in record {
      shallow
          = one.shallow;
      so = keep.positional b.1 b.0 one.so;
    }
    Arg-held i a r (g.Arg.named {i = j} {name} {a = b} so) = let one = item-held j b r so in record
        { shallow = one.shallow; so = keep.named b.1 name b.0 one.so }
    Arg-held i a r (g.Arg.star {i = j} {l} {a = b} so) = let one = item-held j b r so in record {
      shallow = one.shallow;
      so = keep.star b.1 b.0 l one.so;
    }
    Arg-held i a r (g.Arg.double_star {i = j} {l} {a = b} so) = let one = item-held j b r so in
        record { shallow = one.shallow; so = keep.double_star b.1 b.0 l one.so }

    Entry-held : Reads (g.Entry item) (Held holds.pair)
    Entry-held i a r (g.Entry.entry {j} {key} {value} so also) =
        let one = item-held i key _ so in
        let two = item-held j value r also in
        let first = one.shallow in
        let second = two.shallow in
        record {
          shallow = omega (arith, first, second);
          so = keep.entry
              (max key.1 value.1) key.0 value.0 (raised key.1 _ key.0 (omega arith) one.so)
              (raised value.1 _ value.0 (omega arith) two.so);
        }

    -- a bound that may be left out
    abbrev BoundHeld : Deep (Option BareExpr) → Type 0
    BoundHeld bound = Held (λ n some. IfSome some (holds.expr n)) bound

    Bound-held : Reads (g.Bound item) BoundHeld
    Bound-held i a r g.Bound.absent = record { shallow = omega arith; so = tt }
    Bound-held i a r (g.Bound.present {a = b} so) = let one = item-held i b r so in record {
      shallow
          = one.shallow;
      so = one.so;
    }

    Step-held : Reads (g.Step item) BoundHeld
    Step-held i a r g.Step.absent = record { shallow = omega arith; so = tt }
    Step-held i a r (g.Step.present {i = j} so) = Bound-held j a r so

  bound-raised : (n m : ℕ) (bound : Option BareExpr)
      → n ≤ m
      → IfSome bound (holds.expr n)
      → IfSome bound (holds.expr m)
  bound-raised n m None within so = tt
  bound-raised n m (Some tree) within so = raised n m tree within so

  module _ (Nested : Level → Rule Tree)
      (nested-held : (what : Level) → Reads (Nested what) ExprHeld) where
    ForClause-held : Reads (g.ForClause Nested) (λ a. Held holds.clause a × ForFirst (a.0 ∷ []))
    ForClause-held i a r (g.ForClause.loop {i = j} {j = k} {to} {over} so also) =
        let target = Vars-held (Nested level.Primary) (nested-held level.Primary) j to _ so in
        let one = target.held in
        let two = nested-held level.Disjunction k over r also in
        let first = one.shallow in
        let second = two.shallow in (
          record {
            shallow = omega (arith, first, second);
            so = keep.for_clause
                (max to.1 over.1) to.0 over.0 target.target (raised to.1 _ to.0 (omega arith) one.so)
                (raised over.1 _ over.0 (omega arith) two.so);
          },
          ForFirst.for_first,
        )

    AnyClause-held : Reads (g.AnyClause Nested) (Held holds.clause)
    AnyClause-held i a r (g.AnyClause.loop so) = (ForClause-held i a r so).0
    AnyClause-held i a r
        (g.AnyClause.test {i = j} {a = b} so) = let one = nested-held level.Disjunction j b r so in
        record { shallow = one.shallow; so = keep.if_clause b.1 b.0 one.so }

    Comp-held : Reads (g.Comp Nested) (ClausesHeld holds)
    Comp-held = Repeated-held (ClausesHeld holds) (One (g.ForClause Nested))
        (Adds (g.AnyClause Nested)) begins goes
      where
        begins : Reads (One (g.ForClause Nested)) (ClausesHeld holds)
        begins i a r (One.one {a = b} so) = let first = ForClause-held i b r so in record {
          held =
              One-held holds.clause keep.deeper_clause (g.ForClause Nested)
              (λ h c q also. (ForClause-held h c q also).0) i _ r (One.one so);
          first = first.1;
        }

        goes : (clauses : Deep (List BareClause))
            → ClausesHeld holds clauses
            → Reads (Adds (g.AnyClause Nested) clauses) (ClausesHeld holds)
        goes clauses all i a r
            (Adds.adds {a = b} so) = record {
              held = Adds-held holds.clause keep.deeper_clause
                  (g.AnyClause Nested) AnyClause-held clauses all.held i _ r
                  (Adds.adds so);
              first = for_first-behind clauses.0 b.0 all.first;
            }

    Operand-held : Reads (g.Operand Nested) ExprHeld
    Operand-held i a r (g.Operand.name {name} {l}) = record {
      shallow = omega arith;
      so = keep.name
          (record { name = name; line = l });
    }
    Operand-held i a r (g.Operand.integer {value}) = record {
      shallow = omega arith;
      so = keep.int
          value;
    }
    Operand-held i a r (g.Operand.text {text}) = record {
      shallow = omega arith;
      so = keep.text text;
    }
    Operand-held i a r (g.Operand.list {i = j} {items} so is) =
        let all = Listed-held holds.expr keep.deeper_expr s.RightSquare (Nested level.Test)
        (nested-held level.Test) j items r so in
        deepened holds.expr _ items.1 a is (λ _. keep.list items.1 items.0 all.so)
    Operand-held i a r (g.Operand.list_comp {i = j} {j = k} {item} {clauses} so also is) =
        let one = nested-held level.Test j item k so in
        let all = Comp-held k clauses _ also in
        deepened holds.expr _ (max item.1 clauses.1) a is
        (λ _. keep.list_comp (max item.1 clauses.1) item.0 clauses.0
        (raised item.1 _ item.0 (omega arith) one.so) all.first
        (each-deeper holds.clause keep.deeper_clause clauses.1 (max item.1 clauses.1) clauses.0
        (omega arith) all.held.so))
    Operand-held i a r (g.Operand.dict {i = j} {pairs} so is) =
        let all = Listed-held holds.pair keep.deeper_pair s.RightCurly (g.Entry (Nested level.Test))
        (Entry-held (Nested level.Test) (nested-held level.Test)) j pairs r so in
        deepened holds.expr _ pairs.1 a is (λ _. keep.dict pairs.1 pairs.0 all.so)
    Operand-held i a r (g.Operand.dict_comp {i = h} {j} {k} {key} {value} {clauses} so also more is)
        =
        let one = nested-held level.Test h key _ so in
        let two = nested-held level.Test j value k also in
        let all = Comp-held k clauses _ more in
        let n = max (max key.1 value.1) clauses.1 in
        deepened holds.expr _ n a is
        (λ _. keep.dict_comp n key.0 value.0 clauses.0
        (raised key.1 n key.0 (omega arith) one.so)
        (raised value.1 n value.0 (omega arith) two.so) all.first
        (each-deeper holds.clause keep.deeper_clause clauses.1 n clauses.0
        (omega arith) all.held.so))
    Operand-held i a r (g.Operand.empty is) = deepened holds.expr _ 0 a is
        (λ _. keep.tuple 0 [] (All-nil (holds.expr 0)))
    Operand-held i a r (g.Operand.round {i = j} {items} so is) = bracketed-held items a is
        (Series-held holds.expr keep.deeper_expr s.Comma (Nested level.Test)
        (nested-held level.Test) j items _ so)
    Operand-held i a r (g.Operand.tuple {i = j} {items} so is) =
        let all = Series-held holds.expr keep.deeper_expr s.Comma (Nested level.Test)
        (nested-held level.Test) j items _ so in
        deepened holds.expr _ items.1 a is (λ _. keep.tuple items.1 items.0 all.so)

    Suffix-held : (container : Tree)
        → ExprHeld container
        → Reads (g.Suffix Nested container) ExprHeld
    Suffix-held container held i a r
        (g.Suffix.attr {name} is) = deepened holds.expr _ container.1 a is
        (λ _. keep.attr container.1 container.0 name held.so)
    Suffix-held container held i a r (g.Suffix.call {i = j} {args} so are is) =
        let all = Listed-held holds.arg keep.deeper_arg s.RightRound (g.Arg (Nested level.Test))
        (Arg-held (Nested level.Test) (nested-held level.Test)) j args r so in
        let n = max container.1 args.1 in
        deepened holds.expr _ n a is
        (λ _. keep.call n container.0 args.0
        (raised container.1 n container.0 (omega arith) held.so) are
        (each-deeper holds.arg keep.deeper_arg args.1 n args.0 (omega arith) all.so))
    Suffix-held container held i a r (g.Suffix.index {i = j} {at} so is) =
        let one = Expression-held (Nested level.Test) (nested-held level.Test) j at _ so in
        let n = max container.1 at.1 in
        deepened holds.expr _ n a is
        (λ _. keep.index n container.0 at.0
        (raised container.1 n container.0 (omega arith) held.so)
        (raised at.1 n at.0 (omega arith) one.so))
    Suffix-held container held i a r
        (g.Suffix.slice {i = h} {j} {k} {begin} {end} {step} so also more is) =
        let one = Bound-held (Nested level.Test) (nested-held level.Test) h begin _ so in
        let two = Bound-held (Nested level.Test) (nested-held level.Test) j end k also in
        let three = Step-held (Nested level.Test) (nested-held level.Test) k step _ more in
        let n = max container.1 (max begin.1 (max end.1 step.1)) in
        deepened holds.expr _ n a is
        (λ _. keep.slice n container.0 begin.0 end.0 step.0
        (raised container.1 n container.0 (omega arith) held.so)
        (bound-raised begin.1 n begin.0 (omega arith) one.so)
        (bound-raised end.1 n end.0 (omega arith) two.so)
        (bound-raised step.1 n step.0 (omega arith) three.so))

    Primary-held : Reads (g.Primary Nested) ExprHeld
    Primary-held = Repeated-held ExprHeld (g.Operand Nested)
        (g.Suffix Nested) Operand-held Suffix-held

    Prefixed-held : (table : Sign → Option UnOp) (operand tighter : Rule Tree)
        → Reads operand ExprHeld
        → Reads tighter ExprHeld
        → Reads (g.Prefixed table operand tighter) ExprHeld
    Prefixed-held table operand tighter one two i a r (g.Prefixed.plain so) = two i a r so
    Prefixed-held table operand tighter one two i a r
        (g.Prefixed.prefixed {i = j} {op} {a = b} _ so is) = deepened holds.expr _ b.1 a is
        (λ _. keep.unary b.1 op b.0 (one j b r so).so)

    Unary-held : Reads (g.Unary Nested) ExprHeld
    Unary-held = Prefixed-held _ (Nested level.Unary) (g.Primary Nested)
        (nested-held level.Unary) Primary-held

    -- two operands, the left one read before
    operands-held : (op : BinOp) (left right a : Tree)
        → deep (e.Binary op left.0 right.0) (max left.1 right.1) ≡ Some a
        → ExprHeld left
        → ExprHeld right
        → ExprHeld a
    operands-held op left right a is one two = let n = max left.1 right.1 in deepened holds.expr _ n
        a is (λ _. keep.binary n op left.0 right.0 (raised left.1 n left.0 (omega arith) one.so)
        (raised right.1 n right.0 (omega arith) two.so))

    Operation-held : (binary : ℕ) (tighter : Rule Tree)
        → Reads tighter ExprHeld
        → (left : Tree)
        → ExprHeld left
        → Reads (g.Operation binary tighter left) ExprHeld
    Operation-held binary tighter held left one i a r
        (g.Operation.operation {i = j} {op} {right} _ so is) = operands-held op left right a is one
        (held j right r so)

    Chain-held : (binary : ℕ) (tighter : Rule Tree)
        → Reads tighter ExprHeld
        → Reads (g.Chain binary tighter) ExprHeld
    Chain-held binary tighter held = Repeated-held ExprHeld tighter
        (g.Operation binary tighter) held (Operation-held binary tighter held)

    Arithmetic-held : (binary : ℕ) → Reads (g.Arithmetic Nested binary) ExprHeld
    unfolding g.Arithmetic
    Arithmetic-held zero = Unary-held
    Arithmetic-held (suc binary) = Chain-held binary (g.Arithmetic Nested binary)
        (Arithmetic-held binary)

    Comparison-held : (tighter : Rule Tree)
        → Reads tighter ExprHeld
        → Reads (g.Comparison tighter) ExprHeld
    Comparison-held tighter held i a r (g.Comparison.plain so) = held i a r so
    Comparison-held tighter held i a r
        (g.Comparison.compared {j} {op} {left} {right} so _ also is) = operands-held op left right a
        is (held i left _ so) (held j right r also)
    Comparison-held tighter held i a r
        (g.Comparison.outside {j} {left} {right} so also is) = operands-held _ left right a is
        (held i left _ so) (held j right r also)

    Negation-held : Reads (g.Negation Nested) ExprHeld
    Negation-held = Prefixed-held _ (Nested level.Negation) (g.Comparison (g.Arithmetic Nested 6))
        (nested-held level.Negation) (Comparison-held (g.Arithmetic Nested 6) (Arithmetic-held 6))

    Disjunction-held : Reads (g.Disjunction Nested) ExprHeld
    Disjunction-held = Chain-held 7 (g.Chain 6 (g.Negation Nested))
        (Chain-held 6 (g.Negation Nested) Negation-held)

    Test-held : Reads (g.Test Nested) ExprHeld
    Test-held i a r (g.Test.plain so) = Disjunction-held i a r so
    Test-held i a r (g.Test.cond {j} {k} {then = chosen} {test} {other} so also more is) =
        let one = Disjunction-held i chosen _ so in
        let two = Disjunction-held j test _ also in
        let three = nested-held level.Test k other r more in
        let n = max chosen.1 (max test.1 other.1) in
        deepened holds.expr _ n a is
        (λ _. keep.cond n test.0 chosen.0 other.0 (raised test.1 n test.0 (omega arith) two.so)
        (raised chosen.1 n chosen.0 (omega arith) one.so)
        (raised other.1 n other.0 (omega arith) three.so))
    Test-held i a r (g.Test.lambda {i = h} {j} {l} {params} {body} so are also is) =
        let all = Signature-held (Nested level.Test) (nested-held level.Test) h params j so in
        let one = nested-held level.Test j body r also in
        let n = max params.1 body.1 in
        deepened holds.expr _ n a is
        (λ less. keep.lambda n params.0 body.0 l less are
        (each-deeper holds.param keep.deeper_param params.1 n params.0 (omega arith) all.so)
        (raised body.1 n body.0 (omega arith) one.so))

    At-held : (what : Level) → Reads (g.At Nested what) ExprHeld
    At-held level.Primary = Primary-held
    At-held level.Unary = Unary-held
    At-held level.Negation = Negation-held
    At-held level.Disjunction = Disjunction-held
    At-held level.Test = Test-held

  pub Spells-held : (nesting : ℕ) (what : Level) → Reads (g.Spells nesting what) ExprHeld
  unfolding g.Spells
  Spells-held zero what i a r so = absurd so
  Spells-held (suc nesting) what i a r so = At-held (g.Spells nesting)
      (Spells-held nesting) what i a r so
