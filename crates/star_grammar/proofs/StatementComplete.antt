-- The file that symbols spell is the file that is read.
use Rattle.std.proofs.Common.{◌≡◌, ℕ, zero, suc, ◌≤◌, max, true, false, not, ◌||◌, List, [], ◌∷◌}
use Rattle.std.proofs.Common.{Option, Some, None, refl, arith, sym, ap, ◌∙◌}
use Rattle.std.proofs.lemmas.Bool.{false≢true}
use Rattle.std.proofs.lemmas.Option.{none-some}
use Rattle.star_grammar.specs.declared.symbols.Sign.{Sign}
use Rattle.star_grammar.specs.declared.symbols.Sign.TheVariants as s
use Rattle.star_grammar.specs.declared.symbols.Symbol.{Symbol}
use Rattle.star_grammar.specs.declared.bare_expressions.Level.{Level}
use Rattle.star_grammar.specs.declared.bare_expressions.Level.TheVariants as level
use Rattle.star_grammar.specs.declared.bare_statements.BareFile.{BareFile}
use Rattle.star_grammar.specs.declared.bare_statements.BareLoadName.{BareLoadName}
use Rattle.star_grammar.specs.declared.bare_statements.BareStmt.{BareStmt}
use Rattle.star_grammar.specs.declared.bare_statements.BareStmtKind as st
use Rattle.star_grammar.specs.declared.bare_statements.BareStmtKind.{BareStmtKind}
use Rattle.star_trees.specs.declared.inside.Inside.{Inside}
use Rattle.star_grammar.specs.declared.bare_statements.Part.{Part}
use Rattle.star_grammar.specs.declared.bare_statements.Part.TheVariants as part
use Rattle.star_grammar.specs.Rules.{front_line, Rule, Deep, sign, deep, Joins, Closed}
use Rattle.star_grammar.specs.Readers.{Reader, same_sign, sees, front_of, more, one, joins}
use Rattle.star_grammar.specs.Operators as operators
use Rattle.star_grammar.specs.Expressions as g
use Rattle.star_grammar.specs.Expressions.{Tree}
use Rattle.star_grammar.specs.ExpressionReading.{expression, reads}
use Rattle.star_grammar.specs.Statements as t
use Rattle.star_grammar.specs.Statements.{Statements}
use Rattle.star_grammar.specs.StatementReading as reading
use Rattle.star_grammar.proofs.Steps.{by_sign}
use Rattle.star_grammar.proofs.Fronts.{class, unforced, unopened, untabled, augmented-force}
use Rattle.star_grammar.proofs.Shrinks as shrinks
use Rattle.star_grammar.proofs.Shrinks.{Shrinks, Takes}
use Rattle.star_grammar.proofs.Openings as opens
use Rattle.star_grammar.proofs.Openings.{Opens, opening}
use Rattle.star_grammar.proofs.Loops.{then-is, Complete, IsTurn, IsItem, item_turn, Closed-read}
use Rattle.star_grammar.proofs.Loops.{Nothing-read}
use Rattle.star_grammar.proofs.ExpressionComplete.{Alone, Always, IsNested, checked-is, given-is}
use Rattle.star_grammar.proofs.ExpressionComplete.{expression-complete, vars-complete}
use Rattle.star_grammar.proofs.ExpressionComplete.{listed_params-complete, nested-tests}
use Rattle.star_grammar.proofs.ExpressionComplete.{Spells-nests}
use Rattle.star_trees.specs.Surroundings.{at_top, in_branch, in_function, in_loop}

-- ---- loads

loaded-complete : Complete Always reading.loaded t.Loaded
unfolding reading.loaded reading.loaded_same reading.loaded_renamed same_sign
loaded-complete i a r t.Loaded.same stops = refl
loaded-complete i a r t.Loaded.renamed stops = refl

loaded-opens : (i : List Symbol) (a : Deep BareLoadName) (r : List Symbol)
    → t.Loaded i a r
    → sees s.RightRound i ≡ false
loaded-opens i a r t.Loaded.same = refl
loaded-opens i a r t.Loaded.renamed = refl

loaded_item : IsItem s.Comma (Some s.RightRound) reading.loaded t.Loaded Always
loaded_item = record {
  complete = loaded-complete;
  opens = loaded-opens;
  between_stops = λ l i. tt;
  shrinks =
      shrinks.Loaded-shrinks;
}

loaded_names-complete : Complete Always reading.loaded_names t.LoadedNames
unfolding reading.loaded_names same_sign
loaded_names-complete i a r (Closed.plain {l} so) stops = then-is _
    (Nothing-read (item_turn loaded_item) i a (sign s.RightRound l ∷ r) so tt refl) refl
loaded_names-complete i a r (Closed.trailed {l} {m} so) stops = then-is _
    (Nothing-read (item_turn loaded_item) i a
    (sign s.Comma l ∷ sign s.RightRound m ∷ r) so tt refl) refl

-- ---- small statements

-- what ends a small statement comes next
abbrev Stopped : List Symbol → Type 0
Stopped i = (sees s.Semicolon i || sees s.Newline i) ≡ true

stopped-alone : (i : List Symbol) → Stopped i → Alone 11 i
unfolding same_sign
stopped-alone i met =
    by_sign s.Semicolon (λ i. Stopped i → Alone 11 i) (λ l j _. (omega arith, refl)) i
    (λ un met. by_sign s.Newline (λ i. sees s.Semicolon i ≡ false → Stopped i → Alone 11 i)
    (λ l j _ _. (omega arith, refl)) i
    (λ unlined un met. absurd (false≢true (sym (rw un (rw unlined refl)) ∙ met))) un met) met

-- no `elif` and no `else` comes next
abbrev Otherless : List Symbol → Type 0
Otherless i = (sees s.Elif i ≡ false) × (sees s.Else i ≡ false)

-- what may come next behind each part
abbrev Follows : Part → List Symbol → Type 0
Follows part.Statement = Otherless
Follows part.Line = Always
Follows part.Elif = Otherless

front-other : {B : Type 0} (table : Sign → Option B) (what : Sign)
    → table what ≡ None
    → (i : List Symbol) (op : B)
    → front_of table i ≡ Some op
    → sees what i ≡ false
front-other {B} table what none i op e = by_sign what
    (λ i. front_of table i ≡ Some op → sees what i ≡ false)
    (λ l j e. absurd (none-some op (sym none ∙ e))) i (λ un _. un) e

-- what each part of what nests gives, what begins it, and that it takes a symbol
record IsNestedPart (nested : Part → Inside → Reader Statements)
    (Nested : Part → Inside → Rule Statements) : Type 0 where
  complete : (what : Part) (inside : Inside)
      → Complete (Follows what) (nested what inside) (Nested what inside)
  statements : (inside : Inside) → Opens 5 (Nested part.Statement inside)
  lines : (inside : Inside) → Opens 4 (Nested part.Line inside)
  elifs : (inside : Inside) (i : List Symbol) (a : Statements) (r : List Symbol)
      → Nested part.Elif inside i a r
      → sees s.Elif i ≡ true
  takes : (what : Part) (inside : Inside) → Takes (Nested what inside)

module _ (expressions : Level → Reader Tree) (Expressions : Level → Rule Tree)
    (spelled : IsNested expressions Expressions) where
  whole-complete : Complete (Alone 10) (expression (expressions level.Test))
      (g.Expression (Expressions level.Test))
  whole-complete = expression-complete 10 (omega arith) (expressions level.Test)
      (Expressions level.Test) (spelled.complete level.Test) (spelled.shrinks level.Test)

  abbrev whole-opens : Opens 3 (g.Expression (Expressions level.Test))
  whole-opens = opens.Whole-opens Expressions (spelled.opens level.Test)

  -- where an expression begins, no other small statement does
  small-valued : (inside : Inside) (i : List Symbol)
      → class i ≤ 3
      → reading.small expressions inside i ≡ reading.valued expressions (front_line i) i
  unfolding reading.small
  small-valued inside i under = rw (unopened s.Return 3 (omega arith) i under)
      (rw (unopened s.Break 3 (omega arith) i under)
      (rw (unopened s.Continue 3 (omega arith) i under)
      (rw (unopened s.Pass 3 (omega arith) i under)
      (rw (unopened s.Load 3 (omega arith) i under) refl))))

  small-complete : (inside : Inside)
      → Complete Stopped (reading.small expressions inside) (t.Small Expressions inside)
  unfolding reading.small reading.returned reading.returned_value reading.jump reading.load
      reading.valued reading.assigned reading.changed same_sign
  small-complete inside i a r (t.Small.returned_nothing allowed) stops = checked-is _ allowed
      (rw stops refl)
  small-complete inside i a r (t.Small.returned {i = j} {value} allowed so known) stops =
      let under = whole-opens j value r so in
      let alone = stopped-alone r stops in
      checked-is _ allowed
      (rw (unopened s.Semicolon 3 (omega arith) j under)
      (rw (unopened s.Newline 3 (omega arith) j under)
      (then-is _ (whole-complete j value r so (omega (arith, alone.0), alone.1))
      (given-is r known))))
  small-complete inside i a r (t.Small.breaks allowed) stops = checked-is _ allowed refl
  small-complete inside i a r (t.Small.continues allowed) stops = checked-is _ allowed refl
  small-complete inside i a r t.Small.passes stops = refl
  small-complete inside i a r (t.Small.loads {i = j} {names} top so known) stops = checked-is _ top
      (then-is _ (loaded_names-complete j names r so tt) (given-is r known))
  small-complete inside i a r (t.Small.assigned {j} {l} {to} {value} so target also known) stops =
      let alone = stopped-alone r stops in
      small-valued inside i (whole-opens i to _ so)
      ∙ then-is _ (whole-complete i to (sign s.Assign l ∷ j) so (omega arith, refl))
      (checked-is _ target
      (then-is _ (whole-complete j value r also (omega (arith, alone.0), alone.1))
      (given-is r known)))
  small-complete inside i a r
      (t.Small.changed {j} {what} {l} {op} {place} {value} so table placed also known) stops =
      let alone = stopped-alone r stops in
      let bound = augmented-force what op table in
      small-valued inside i (whole-opens i place _ so)
      ∙ then-is _ (whole-complete i place (sign what l ∷ j) so (
        omega arith,
        front-other
            operators.augmented s.Comma refl (sign what l ∷ j) op table,
      ))
      (rw (front-other operators.augmented s.Assign refl (sign what l ∷ j) op table)
      (rw table (checked-is _ placed (then-is _ (whole-complete j value r also (
        omega (
          arith,
          alone.0,
        ),
        alone.1,
      )) (given-is r known)))))
  small-complete inside i a r (t.Small.valued {value} so known) stops =
      let alone = stopped-alone r stops in
      small-valued inside i (whole-opens i value r so)
      ∙ then-is _ (whole-complete i value r so (omega (arith, alone.0), alone.1))
      (rw (unforced s.Assign 11 (omega arith) r alone.0)
      (rw (untabled operators.augmented 11
      (λ what op known. let same = augmented-force what op known in omega arith) r alone.0)
      (given-is r known)))

  small_item : (inside : Inside)
      → IsItem s.Semicolon (Some s.Newline) (reading.small expressions inside)
      (t.Small Expressions inside) Stopped
  unfolding same_sign
  small_item inside = record {
    complete = small-complete inside;
    opens = λ i a r so. unopened s.Newline 4 (omega arith) i
        (opens.Small-opens Expressions
        (spelled.opens level.Test) inside i a r so);
    between_stops = λ l i. refl;
    shrinks =
        shrinks.Small-shrinks Expressions spelled.shrinks inside;
  }

  simple-complete : (inside : Inside)
      → Complete Always (reading.simple expressions inside) (t.Simple Expressions inside)
  unfolding reading.simple same_sign
  simple-complete inside i a r so stops =
      let all = Closed-read (small_item inside) refl (λ l i. refl) i a r so in
      then-is _ (small-complete inside i all.first all.rest all.stands all.stops)
      (then-is _ all.read (then-is _ all.ends refl))

  -- ---- statements with suites

  module _ (nested : Part → Inside → Reader Statements) (Nested : Part → Inside → Rule Statements)
      (nests : IsNestedPart nested Nested) where
    block_turn : (inside : Inside)
        → IsTurn (Joins (Nested part.Statement inside)) Otherless (λ i. not (sees s.Outdent i))
        (joins (nested part.Statement inside))
    block_turn inside = record { complete = complete; opens = begun; takes = takes }
      where
        complete : (items : Statements)
            → Complete Otherless (joins (nested part.Statement inside) items)
            (Joins (Nested part.Statement inside) items)
        complete items i b r (Joins.joins {a} so) stops = then-is _
            (nests.complete part.Statement inside i a r so stops) refl

        begun : (items : Statements) (i : List Symbol) (b : Statements) (r : List Symbol)
            → Joins (Nested part.Statement inside) items i b r
            → Otherless i × (not (sees s.Outdent i) ≡ true)
        begun items i b r (Joins.joins {a} so) =
            let under = nests.statements inside i a r so in (
              (unopened s.Elif 5 (omega arith) i under, unopened s.Else 5 (omega arith) i under),
              rw
                  (unopened s.Outdent 5 (omega arith) i under) refl,
            )

        takes : (items : Statements) → Takes (Joins (Nested part.Statement inside) items)
        takes items i b r (Joins.joins {a} so) = nests.takes part.Statement inside i a r so

    suite-complete : (inside : Inside)
        → Complete Always (reading.suite expressions nested inside) (t.Suite Nested inside)
    unfolding reading.suite reading.block same_sign
    suite-complete inside i a r (t.Suite.block {i = j} {n} so) stops = then-is _
        (Nothing-read (block_turn inside) j a (sign s.Outdent n ∷ r) so (refl, refl) refl) refl
    suite-complete inside i a r (t.Suite.line so) stops = rw
        (unopened s.Newline 4 (omega arith) i (nests.lines inside i a r so))
        (nests.complete part.Line inside i a r so tt)

    otherwise-complete : (inside : Inside)
        → Complete Otherless (reading.otherwise expressions nested inside)
        (t.Otherwise Nested inside)
    unfolding reading.otherwise reading.last_branch same_sign
    otherwise-complete inside i a r t.Otherwise.absent stops = rw stops.0 (rw stops.1 refl)
    otherwise-complete inside i a r (t.Otherwise.elif so) stops = rw (nests.elifs inside i a r so)
        (nests.complete part.Elif inside i a r so stops)
    otherwise-complete inside i a r (t.Otherwise.else {i = j} so) stops = suite-complete
        (in_branch inside) j a r so tt

    branch-complete : (inside : Inside) (l : ℕ) (i : List Symbol) (test : Tree) (m : ℕ)
        (j : List Symbol) (chosen : Statements) (k : List Symbol) (other : Statements)
        (r : List Symbol) (a : Deep BareStmt)
        → Expressions level.Test i test (sign s.Colon m ∷ j)
        → t.Suite Nested (in_branch inside) j chosen k
        → t.Otherwise Nested inside k other r
        → deep (t.on_line l (st.If test.0 chosen.0 other.0)) (max test.1 (max chosen.1 other.1))
        ≡ Some a → Otherless r
        → reading.branch expressions nested inside l i ≡ Some ((a.0 ∷ [], a.1), r)
    unfolding reading.branch same_sign
    branch-complete inside l i test m j chosen k other r a so also more known stops =
        then-is _ (spelled.complete level.Test i test (sign s.Colon m ∷ j) so (omega arith))
        (then-is _ (suite-complete (in_branch inside) j chosen k also tt)
        (then-is _ (otherwise-complete inside k other r more stops)
        (then-is _ (given-is r known) refl)))

    statement-complete : (inside : Inside)
        → Complete Otherless (reading.statement expressions nested inside)
        (t.Statement Expressions Nested inside)
    unfolding reading.statement reading.definition reading.defined reading.loop same_sign
    statement-complete inside i a r
        (t.Statement.def {i = h} {j} {k} {params} {body} so ordered also known) stops =
        then-is _ (listed_params-complete (nested-tests spelled) h params (sign s.Colon k ∷ j) so
        tt)
        (checked-is _ ordered
        (then-is _ (suite-complete in_function j body r also tt)
        (then-is _ (given-is r known) refl)))
    statement-complete inside i a r
        (t.Statement.branch (t.Branch.branch {i = h} {j} {k} {l} {m} {test} {then = chosen} {other}
        {a = b} so also more known)) stops = branch-complete inside l h test m j chosen k other r b
        so also more known stops
    statement-complete inside i a r
        (t.Statement.loop {i = h} {j} {k} {m} {n} {to} {over} {body} so also more known) stops =
        then-is _
        (vars-complete 0 (omega arith) (expressions level.Primary) (Expressions level.Primary)
        (spelled.complete level.Primary) (spelled.shrinks level.Primary) h to
        (sign s.In m ∷ j) so (omega arith, refl))
        (then-is _ (whole-complete j over (sign s.Colon n ∷ k) also (omega arith, refl))
        (then-is _ (suite-complete (in_loop inside) k body r more tt)
        (then-is _ (given-is r known) refl)))
    statement-complete inside i a r (t.Statement.simple so) stops =
        let under = opens.Simple-opens Expressions (spelled.opens level.Test) inside i a r so in
        rw (unopened s.Def 4 (omega arith) i under)
        (rw (unopened s.If 4 (omega arith) i under)
        (rw (unopened s.For 4 (omega arith) i under) (simple-complete inside i a r so tt)))

    elif-complete : (inside : Inside)
        → Complete Otherless (reading.elif expressions nested inside)
        (t.Branch s.Elif Expressions Nested inside)
    unfolding reading.elif same_sign
    elif-complete inside i a r
        (t.Branch.branch {i = h} {j} {k} {l} {m} {test} {then = chosen} {other} {a = b} so also more
        known) stops = branch-complete inside l h test m j chosen k other r b so also more known
        stops

    of-complete : (what : Part) (inside : Inside)
        → Complete (Follows what) (reading.of expressions nested what inside)
        (t.Of Expressions Nested what inside)
    of-complete part.Statement inside = statement-complete inside
    of-complete part.Line inside = simple-complete inside
    of-complete part.Elif inside = elif-complete inside

stands-complete : (nesting : ℕ) (what : Part) (inside : Inside)
    → Complete (Follows what) (reading.stands nesting what inside) (t.Stands nesting what inside)
unfolding reading.stands t.Stands
stands-complete zero what inside i a r so stops = absurd so
stands-complete (suc nesting) what inside i a r so stops =
    of-complete (reads nesting) (g.Spells nesting) (Spells-nests nesting) (reading.stands nesting)
    (t.Stands nesting)
    (record {
      complete = stands-complete nesting;
      statements = opens.Stands-opens nesting;
      lines =
          opens.Line-opens nesting;
      elifs = opens.Elif-opens nesting;
      takes = shrinks.Stands-takes
          nesting;
    }) what inside i a r so stops

-- ---- files

file_part-complete : Complete Otherless reading.file_part t.FilePart
unfolding reading.file_part same_sign
file_part-complete i a r (t.FilePart.statement so) stops = rw
    (unopened s.Newline 5 (omega arith) i (opens.Stands-opens 128 at_top i a r so))
    (stands-complete 128 part.Statement at_top i a r so stops)
file_part-complete i a r t.FilePart.newline stops = refl

opened-more : (i : List Symbol) → class i ≤ 5 → reading.has_more i ≡ true
opened-more [] under = absurd (omega arith)
opened-more (symbol ∷ i) under = refl

file_turn : IsTurn (Joins t.FilePart) Otherless reading.has_more (joins reading.file_part)
unfolding same_sign
file_turn = record { complete = complete; opens = begun; takes = takes }
  where
    complete : (items : Statements)
        → Complete Otherless (joins reading.file_part items) (Joins t.FilePart items)
    complete items i b r (Joins.joins {a} so) stops = then-is _
        (file_part-complete i a r so stops) refl

    begun : (items : Statements) (i : List Symbol) (b : Statements) (r : List Symbol)
        → Joins t.FilePart items i b r
        → Otherless i × (reading.has_more i ≡ true)
    begun items i b r (Joins.joins {a} (t.FilePart.statement so)) =
        let under = opens.Stands-opens 128 at_top i a r so in (
          (
            unopened s.Elif 5 (omega arith) i under,
            unopened s.Else 5
                (omega arith) i under,
          ),
          opened-more i under,
        )
    begun items i b r (Joins.joins t.FilePart.newline) = ((refl, refl), refl)

    takes : (items : Statements) → Takes (Joins t.FilePart items)
    takes items i b r (Joins.joins {a} (t.FilePart.statement so)) = shrinks.Stands-takes 128
        part.Statement at_top i a r so
    takes items i b r (Joins.joins t.FilePart.newline) = omega arith

-- the file that is spelled is read
pub file-complete : (symbols : List Symbol) (file : BareFile)
    → t.IsFile symbols file
    → reading.file symbols ≡ Some file
unfolding reading.file reading.file_parts
file-complete symbols file (t.IsFile.file {depth} so) = ap reading.whole_file
    (Nothing-read file_turn symbols (file.body, depth) [] so (refl, refl) refl)

file_or : BareFile → Option BareFile → BareFile
file_or other None = other
file_or other (Some f) = f

some-file : (f h : BareFile) → ◌≡◌ {A = Option BareFile} (Some f) (Some h) → f ≡ h
unfolding file_or
some-file f h e = ap (file_or f) e

-- symbols spell one file at most
pub IsFile-unique : (symbols : List Symbol) (one other : BareFile)
    → t.IsFile symbols one
    → t.IsFile symbols other
    → one ≡ other
IsFile-unique symbols one other so also = some-file one other
    (sym (file-complete symbols one so) ∙ file-complete symbols other also)
