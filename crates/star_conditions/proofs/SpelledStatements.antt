-- A condition that each production of a statement keeps holds of each statement of a file that is
-- spelled.
use Rattle.std.proofs.Common.{◌≡◌, ℕ, zero, suc, ◌≤◌, max, List, [], ◌∷◌, All, arith, refl, subst}
use Rattle.std.proofs.lemmas.List.Elements.{All-cons, All-nil}
use Rattle.star_conditions.proofs.Conditions.{Conditions, ExpressionsKeep, StatementsKeep}
use Rattle.star_conditions.proofs.SpelledExpressions.{Expression-held, Param-held, Spells-held}
use Rattle.star_conditions.proofs.SpelledExpressions.{Vars-held}
use Rattle.star_conditions.proofs.SpelledParts.{Held, Reads, EachOf, deepened, each-deeper}
use Rattle.star_conditions.proofs.SpelledParts.{Repeated-held, Series-held, Closed-held}
use Rattle.star_conditions.proofs.SpelledParts.{Listed-held, Joins-held, Nothing-held}
use Rattle.star_grammar.specs.declared.bare_expressions.Level.{Level}
use Rattle.star_grammar.specs.declared.bare_expressions.Level.TheVariants as level
use Rattle.star_grammar.specs.declared.bare_statements.BareFile.{BareFile}
use Rattle.star_grammar.specs.declared.bare_statements.BareStmt.{BareStmt}
use Rattle.star_trees.specs.declared.inside.Inside.{Inside}
use Rattle.star_grammar.specs.declared.bare_statements.Part.{Part}
use Rattle.star_grammar.specs.declared.bare_statements.Part.TheVariants as part
use Rattle.star_grammar.specs.declared.symbols.Sign.{Sign}
use Rattle.star_grammar.specs.declared.symbols.Sign.TheVariants as s
use Rattle.star_grammar.specs.declared.symbols.Symbol.{Symbol}
use Rattle.star_grammar.specs.Expressions as g
use Rattle.star_grammar.specs.Expressions.{Tree}
use Rattle.star_grammar.specs.Rules.{Rule, Deep, Nothing, Joins, Series}
use Rattle.star_grammar.specs.Statements as t
use Rattle.star_grammar.specs.Statements.{Statements}
use Rattle.star_trees.specs.Surroundings.{at_top, in_branch, in_function, in_loop}

-- an `elif` stands in the branch before it
abbrev within : Part → Inside → Inside
within part.Statement inside = inside
within part.Line inside = inside
within part.Elif inside = in_branch inside

module _ (holds : Conditions) (keep : ExpressionsKeep holds) (stands : StatementsKeep holds) where
  abbrev StmtHeld : Inside → Deep BareStmt → Type 0
  StmtHeld inside = Held (holds.stmt inside)

  abbrev BodyHeld : Inside → Statements → Type 0
  BodyHeld inside = Held (EachOf (holds.stmt inside))

  -- a statement alone
  alone-held : (inside : Inside) (a : Deep BareStmt)
      → StmtHeld inside a
      → BodyHeld inside (a.0 ∷ [], a.1)
  alone-held inside a one = record {
    shallow = one.shallow;
    so = All-cons
        (holds.stmt inside a.1) a.0 [] one.so (All-nil (holds.stmt inside a.1));
  }

  body-raised : (inside : Inside) (n m : ℕ) (body : List BareStmt)
      → n ≤ m
      → All (holds.stmt inside n) body
      → All (holds.stmt inside m) body
  body-raised inside = each-deeper (holds.stmt inside) (stands.deeper_stmt inside)

  module _ (Expressions : Level → Rule Tree)
      (expressions-held : (what : Level) → Reads (Expressions what) (Held holds.expr)) where
    Whole-held : Reads (g.Expression (Expressions level.Test)) (Held holds.expr)
    Whole-held = Expression-held holds keep (Expressions level.Test) (expressions-held level.Test)

    Small-held : (inside : Inside) → Reads (t.Small Expressions inside) (StmtHeld inside)
    Small-held inside i a r
        (t.Small.returned_nothing {l} may) = record
        { shallow = omega arith; so = stands.returned_nothing inside l may }
    Small-held inside i a r (t.Small.returned {i = j} {l} {value} may so is) = deepened
        (holds.stmt inside) _ value.1 a is
        (λ _. stands.returned inside l value.1 value.0 may (Whole-held j value r so).so)
    Small-held inside i a r
        (t.Small.breaks {l} may) = record { shallow = omega arith; so = stands.breaks inside l may }
    Small-held inside i a r
        (t.Small.continues {l} may) = record
        { shallow = omega arith; so = stands.continues inside l may }
    Small-held inside i a r
        (t.Small.passes {l}) = record { shallow = omega arith; so = stands.passes inside l }
    Small-held inside i a r (t.Small.loads {l} {file} {names} may so is) = deepened
        (holds.stmt inside) _ names.1 a is (λ _. stands.loads inside l names.1 file names.0 may)
    Small-held inside i a r (t.Small.assigned {j} {to} {value} so target also is) =
        let one = Whole-held i to _ so in
        let two = Whole-held j value r also in
        let n = max to.1 value.1 in
        deepened (holds.stmt inside) _ n a is
        (λ _. stands.assigned inside _ n to.0 value.0 target
        (keep.deeper_expr to.1 n to.0 (omega arith) one.so)
        (keep.deeper_expr value.1 n value.0 (omega arith) two.so))
    Small-held inside i a r (t.Small.changed {j} {op} {place} {value} so _ named also is) =
        let one = Whole-held i place _ so in
        let two = Whole-held j value r also in
        let n = max place.1 value.1 in
        deepened (holds.stmt inside) _ n a is
        (λ _. stands.changed inside _ n place.0 op value.0 named
        (keep.deeper_expr place.1 n place.0 (omega arith) one.so)
        (keep.deeper_expr value.1 n value.0 (omega arith) two.so))
    Small-held inside i a r (t.Small.valued {value} so is) = deepened
        (holds.stmt inside) _ value.1 a is
        (λ _. stands.valued inside _ value.1 value.0 (Whole-held i value r so).so)

    Simple-held : (inside : Inside) → Reads (t.Simple Expressions inside) (BodyHeld inside)
    Simple-held inside = Closed-held s.Semicolon s.Newline
        (Series s.Semicolon (t.Small Expressions inside)) (BodyHeld inside)
        (Series-held (holds.stmt inside) (stands.deeper_stmt inside) s.Semicolon
        (t.Small Expressions inside) (Small-held inside))

    module _ (Nested : Part → Inside → Rule Statements)
        (nested-held : (what : Part) (inside : Inside)
        → Reads (Nested what inside) (BodyHeld (within what inside))) where
      Suite-held : (inside : Inside) → Reads (t.Suite Nested inside) (BodyHeld inside)
      Suite-held inside i a r (t.Suite.block {i = j} so) =
          Repeated-held (BodyHeld inside) Nothing (Joins (Nested part.Statement inside))
          (Nothing-held (holds.stmt inside) (stands.deeper_stmt inside))
          (Joins-held (holds.stmt inside) (stands.deeper_stmt inside)
          (Nested part.Statement inside) (nested-held part.Statement inside)) j a _ so
      Suite-held inside i a r (t.Suite.line so) = nested-held part.Line inside i a r so

      Otherwise-held : (inside : Inside)
          → Reads (t.Otherwise Nested inside) (BodyHeld (in_branch inside))
      Otherwise-held inside i a r t.Otherwise.absent = record {
        shallow = omega arith;
        so = All-nil
            (holds.stmt (in_branch inside) 0);
      }
      Otherwise-held inside i a r (t.Otherwise.elif so) = nested-held part.Elif inside i a r so
      Otherwise-held inside i a r (t.Otherwise.else {i = j} so) = Suite-held
          (in_branch inside) j a r so

      -- a branch may stand wherever its suites stand in a branch
      Branch-held : (first : Sign) (inside around : Inside)
          → in_branch inside ≡ in_branch around
          → Reads (t.Branch first Expressions Nested inside) (BodyHeld around)
      Branch-held first inside around same i a r
          (t.Branch.branch {i = h} {j} {k} {l} {test} {then = chosen} {other} {a = b} so also more
          is) =
          let one = expressions-held level.Test h test _ so in
          let two = subst (λ place. BodyHeld place chosen) same
          (Suite-held (in_branch inside) j chosen k also) in
          let three = subst (λ place. BodyHeld place other) same
          (Otherwise-held inside k other r more) in
          let n = max test.1 (max chosen.1 other.1) in
          alone-held around b (deepened (holds.stmt around) _ n b is (λ _. stands.branch around l n
          test.0 chosen.0 other.0 (keep.deeper_expr test.1 n test.0 (omega arith) one.so)
          (body-raised (in_branch around) chosen.1 n chosen.0 (omega arith) two.so)
          (body-raised (in_branch around) other.1 n other.0 (omega arith) three.so)))

      Statement-held : (inside : Inside)
          → Reads (t.Statement Expressions Nested inside) (BodyHeld inside)
      Statement-held inside i a r
          (t.Statement.def {i = h} {j} {l} {m} {name} {params} {body} {a = b} so are also is) =
          let one = Listed-held holds.param keep.deeper_param s.RightRound
          (g.Param (Expressions level.Test))
          (Param-held holds keep (Expressions level.Test)
          (expressions-held level.Test)) h params _ so in
          let two = Suite-held in_function j body r also in
          let n = max params.1 body.1 in
          alone-held inside b (deepened (holds.stmt inside) _ n b is (λ less. stands.def inside l n
          (record { name = name; line = m }) params.0 body.0 less are
          (each-deeper holds.param keep.deeper_param params.1 n params.0 (omega arith) one.so)
          (body-raised in_function body.1 n body.0 (omega arith) two.so)))
      Statement-held inside i a r
          (t.Statement.branch so) = Branch-held s.If inside inside refl i a r so
      Statement-held inside i a r
          (t.Statement.loop {i = h} {j} {k} {l} {to} {over} {body} {a = b} so also more is) =
          let target = Vars-held holds keep (Expressions level.Primary)
          (expressions-held level.Primary) h to _ so in
          let one = target.held in
          let two = Whole-held j over _ also in
          let three = Suite-held (in_loop inside) k body r more in
          let n = max to.1 (max over.1 body.1) in
          alone-held inside b (deepened (holds.stmt inside) _ n b is (λ _. stands.loop inside l n
          to.0 over.0 body.0 target.target (keep.deeper_expr to.1 n to.0 (omega arith) one.so)
          (keep.deeper_expr over.1 n over.0 (omega arith) two.so)
          (body-raised (in_loop inside) body.1 n body.0 (omega arith) three.so)))
      Statement-held inside i a r (t.Statement.simple so) = Simple-held inside i a r so

      Of-held : (what : Part) (inside : Inside)
          → Reads (t.Of Expressions Nested what inside) (BodyHeld (within what inside))
      Of-held part.Statement inside = Statement-held inside
      Of-held part.Line inside = Simple-held inside
      Of-held part.Elif inside = Branch-held s.Elif inside (in_branch inside) refl

  pub Stands-held : (nesting : ℕ) (what : Part) (inside : Inside)
      → Reads (t.Stands nesting what inside) (BodyHeld (within what inside))
  unfolding t.Stands
  Stands-held zero what inside i a r so = absurd so
  Stands-held (suc nesting) what inside i a r so = Of-held (g.Spells nesting)
      (Spells-held holds keep nesting) (t.Stands nesting) (Stands-held nesting) what inside i a r so

  FilePart-held : Reads t.FilePart (BodyHeld at_top)
  FilePart-held i a r (t.FilePart.statement so) = Stands-held 128 part.Statement at_top i a r so
  FilePart-held i a r t.FilePart.newline = record {
    shallow = omega arith;
    so = All-nil
        (holds.stmt at_top 0);
  }

  pub IsFile-held : (symbols : List Symbol) (file : BareFile)
      → t.IsFile symbols file
      → (n : ℕ) × (n ≤ 128) × All (holds.stmt at_top n) file.body
  IsFile-held symbols file (t.IsFile.file {depth} so) =
      let all = Repeated-held (BodyHeld at_top) Nothing (Joins t.FilePart)
      (Nothing-held (holds.stmt at_top) (stands.deeper_stmt at_top))
      (Joins-held (holds.stmt at_top)
      (stands.deeper_stmt at_top) t.FilePart FilePart-held) symbols (file.body, depth) [] so in
      (depth, all.shallow, all.so)
