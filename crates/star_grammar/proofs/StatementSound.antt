-- What the reader of a file gives is what its symbols spell.
use Rattle.std.proofs.Common.{◌≡◌, ℕ, zero, suc, not, ◌||◌, cond, List, [], ◌∷◌, length, Option}
use Rattle.std.proofs.Common.{Some, None, ap, subst}
use Rattle.std.proofs.lemmas.Bool.{cond_both}
use Rattle.std.proofs.lemmas.Option.{none-some}
use Rattle.star_trees.specs.declared.trees.BinOp.{BinOp}
use Rattle.star_grammar.specs.declared.symbols.Sign.{Sign}
use Rattle.star_grammar.specs.declared.symbols.Sign.TheVariants as s
use Rattle.star_grammar.specs.declared.symbols.Symbol.{Symbol}
use Rattle.star_grammar.specs.declared.symbols.SymbolKind.{SymbolKind}
use Rattle.star_grammar.specs.declared.symbols.SymbolKind.TheVariants as kind
use Rattle.star_grammar.specs.declared.bare_expressions.Level.{Level}
use Rattle.star_grammar.specs.declared.bare_expressions.Level.TheVariants as level
use Rattle.star_grammar.specs.declared.bare_statements.BareFile.{BareFile}
use Rattle.star_grammar.specs.declared.bare_statements.BareStmtKind as st
use Rattle.star_grammar.specs.declared.bare_statements.BareStmtKind.{BareStmtKind}
use Rattle.star_trees.specs.declared.inside.Inside.{Inside}
use Rattle.star_grammar.specs.declared.bare_statements.Part.{Part}
use Rattle.star_grammar.specs.declared.bare_statements.Part.TheVariants as part
use Rattle.star_grammar.specs.Rules.{front_line, Rule, sign, word, Repeated, Nothing, One, Adds}
use Rattle.star_grammar.specs.Rules.{Joins, After, Series, Listed}
use Rattle.star_grammar.specs.Rules.Repeated.{begins}
use Rattle.star_grammar.specs.Readers.{Reader, text, text_in, name_in, and_then, ◌>>=◌, ◌>>◌, pure}
use Rattle.star_grammar.specs.Readers.{given, sees, front_of, expect, one, joins}
use Rattle.star_grammar.specs.Operators as operators
use Rattle.star_grammar.specs.Orders.{are_params, is_place, is_target}
use Rattle.star_grammar.specs.Expressions as g
use Rattle.star_grammar.specs.Expressions.{Tree}
use Rattle.star_grammar.specs.ExpressionReading.{expression, reads}
use Rattle.star_grammar.specs.Statements as t
use Rattle.star_grammar.specs.Statements.{Statements}
use Rattle.star_grammar.specs.StatementReading as reading
use Rattle.star_grammar.proofs.Steps.{then_sees-gives, Gives, Sound, by_sign, by_front, same-sign}
use Rattle.star_grammar.proofs.Steps.{then-gives, expect-gives, met-gives, sees-gives}
use Rattle.star_grammar.proofs.Steps.{then_expect-gives, given-gives, given_then-gives}
use Rattle.star_grammar.proofs.Steps.{checked-gives, word-gives, text-gives, rounds-gives}
use Rattle.star_grammar.proofs.Steps.{more-gives, closed-gives}
use Rattle.star_grammar.proofs.Steps.Gives.{refuses, gives}
use Rattle.star_grammar.proofs.ExpressionSound.{expression-sound, vars-sound, listed_params-sound}
use Rattle.star_grammar.proofs.ExpressionSound.{reads-sound}
use Rattle.star_trees.specs.Surroundings.{at_top, in_branch, in_function, in_loop}

-- ---- loads

loaded_same-sound : (i : List Symbol) → Gives (t.Loaded i) (reading.loaded_same (front_line i) i)
unfolding reading.loaded_same
loaded_same-sound [] = refuses
loaded_same-sound (symbol ∷ i) = go symbol.kind symbol.line
  where
    go : (is : SymbolKind) (l : ℕ)
        → Gives (t.Loaded (record { kind = is; line = l } ∷ i))
        (and_then (given (text_in is) i)
        (λ called. pure (
          record { name = record { local = called; remote = called }; line = l },
          1,
        )))
    go (kind.Text said) l = gives t.Loaded.same
    go (kind.Name _) l = refuses
    go (kind.Int _) l = refuses
    go (kind.Sign _) l = refuses

loaded-sound : Sound reading.loaded t.Loaded
unfolding reading.loaded reading.loaded_renamed
loaded-sound i =
    word-gives t.Loaded (λ l local. expect s.Assign >> (text >>= (λ remote. pure (
      record {
        name =
            record { local = local; remote = remote };
        line = l;
      },
      1,
    ))))
    (λ local l j. expect-gives (λ j. t.Loaded (word local l ∷ j)) s.Assign _
    (λ m k. text-gives (λ k. t.Loaded (word local l ∷ sign s.Assign m ∷ k)) _
    (λ remote n reading. gives t.Loaded.renamed) k) j) i
    (λ _. loaded_same-sound i)

loaded_names-sound : Sound reading.loaded_names t.LoadedNames
unfolding reading.loaded_names
loaded_names-sound i = then-gives
    (more-gives s.Comma (Some s.RightRound) reading.loaded t.Loaded Nothing loaded-sound i ([], 0) i
    (begins Nothing.nothing))
    (λ names j all. closed-gives
    (Repeated Nothing (Adds (After s.Comma t.Loaded))) s.Comma s.RightRound i names j _ all
    (λ r whole. gives whole))

module _ (expressions : Level → Reader Tree) (Expressions : Level → Rule Tree)
    (expressions-sound : (what : Level) → Sound (expressions what) (Expressions what)) where
  -- ---- small statements

  abbrev Whole : Rule Tree
  Whole = g.Expression (Expressions level.Test)

  whole-sound : Sound (expression (expressions level.Test)) Whole
  whole-sound = expression-sound (expressions level.Test) (Expressions level.Test)
      (expressions-sound level.Test)

  load-sound : (inside : Inside) (l : ℕ) (i : List Symbol)
      → Gives (t.Small Expressions inside (sign s.Load l ∷ i)) (reading.load inside l i)
  unfolding reading.load
  load-sound inside l i =
      checked-gives inside.top _ i
      (λ top. expect-gives (λ i. t.Small Expressions inside (sign s.Load l ∷ i)) s.LeftRound _
      (λ m j. text-gives (λ j. t.Small Expressions inside (sign s.Load l ∷ sign s.LeftRound m ∷
      j)) _ (λ said n k. then-gives (loaded_names-sound k) (λ names r all. given-gives _ r (λ a
      e. t.Small.loads top all e))) j) i)

  returned-sound : (inside : Inside) (l : ℕ) (i : List Symbol)
      → Gives (t.Small Expressions inside (sign s.Return l ∷ i))
      (reading.returned expressions inside l i)
  unfolding reading.returned reading.returned_value
  returned-sound inside l i =
      checked-gives inside.function _ i
      (λ so. cond_both (sees s.Semicolon i || sees s.Newline i)
      (Some ((t.on_line l (st.Return None), 1), i)) (reading.returned_value expressions l i)
      (Gives (t.Small Expressions inside (sign s.Return l ∷ i)))
      (λ _. gives (t.Small.returned_nothing so))
      (λ _. then-gives (whole-sound i)
      (λ value r stands. given-gives _ r (λ a e. t.Small.returned so stands e))))

  assigned-sound : (inside : Inside) (i : List Symbol) (first : Tree) (l : ℕ) (j : List Symbol)
      → Whole i first (sign s.Assign l ∷ j)
      → Gives (t.Small Expressions inside i) (reading.assigned expressions (front_line i) first j)
  unfolding reading.assigned
  assigned-sound inside i first l j stands = checked-gives (is_target first.0) _ j
      (λ so. then-gives (whole-sound j)
      (λ value r also. given-gives _ r (λ a e. t.Small.assigned stands so also e)))

  changed-sound : (inside : Inside) (i : List Symbol) (first : Tree) (what : Sign) (l : ℕ)
      (op : BinOp) (j : List Symbol) → operators.augmented what ≡ Some op
      → Whole i first (sign what l ∷ j)
      → Gives (t.Small Expressions inside i)
      (reading.changed expressions (front_line i) first op (sign what l ∷ j))
  unfolding reading.changed
  changed-sound inside i first what l op j known stands = checked-gives (is_place first.0) _ j
      (λ so. then-gives (whole-sound j)
      (λ value r also. given-gives _ r (λ a e. t.Small.changed stands known so also e)))

  unassigned-sound : (inside : Inside) (i : List Symbol) (first : Tree) (j : List Symbol)
      → Whole i first j
      → Gives (t.Small Expressions inside i)
      (reading.changed_by expressions (front_line i) first (front_of operators.augmented j) j)
  unassigned-sound inside i first j stands =
      by_front operators.augmented
      (λ j o. Whole i first j
      → Gives (t.Small Expressions inside i)
      (reading.changed_by expressions (front_line i) first o j))
      (λ what l op j known stands. changed-sound inside i first what l op j known stands) j
      (λ _ stands. given-gives _ j (λ a e. t.Small.valued stands e)) stands

  valued-sound : (inside : Inside) (i : List Symbol)
      → Gives (t.Small Expressions inside i) (reading.valued expressions (front_line i) i)
  unfolding reading.valued
  valued-sound inside i = then_sees-gives s.Assign _ _ (whole-sound i)
      (λ first l j stands. assigned-sound inside i first l j stands)
      (λ first j _ stands. unassigned-sound inside i first j stands)

  small-sound : (inside : Inside)
      → Sound (reading.small expressions inside) (t.Small Expressions inside)
  unfolding reading.small reading.jump
  small-sound inside i =
      sees-gives (t.Small Expressions inside) s.Return (reading.returned expressions inside)
      (returned-sound inside) i (λ _.
      sees-gives (t.Small Expressions inside) s.Break
      (λ l i. and_then (cond inside.looping (Some (tt, i)) None)
      (λ _. pure (t.on_line l st.Break, 1)))
      (λ l j. checked-gives inside.looping _ j (λ so. gives (t.Small.breaks so))) i (λ _.
      sees-gives (t.Small Expressions inside) s.Continue
      (λ l i. and_then (cond inside.looping (Some (tt, i)) None)
      (λ _. pure (t.on_line l st.Continue, 1)))
      (λ l j. checked-gives inside.looping _ j (λ so. gives (t.Small.continues so))) i (λ _.
      sees-gives (t.Small Expressions inside) s.Pass (λ l i. Some ((t.on_line l st.Pass, 1), i))
      (λ l j. gives t.Small.passes) i (λ _.
      sees-gives (t.Small Expressions inside) s.Load (reading.load inside) (load-sound inside) i
      (λ _. valued-sound inside i)))))

  simple-sound : (inside : Inside)
      → Sound (reading.simple expressions inside) (t.Simple Expressions inside)
  unfolding reading.simple
  simple-sound inside i =
      then-gives (small-sound inside i)
      (λ first j so. then-gives
      (more-gives s.Semicolon (Some s.Newline) (reading.small expressions inside)
      (t.Small Expressions inside) (One (t.Small Expressions inside)) (small-sound inside) i
      (one first) j (begins (One.one so)))
      (λ body k all. closed-gives
      (Series s.Semicolon (t.Small Expressions inside)) s.Semicolon s.Newline i body k _ all
      (λ r whole. gives whole)))

  -- ---- statements with suites

  module _ (nested : Part → Inside → Reader Statements) (Nested : Part → Inside → Rule Statements)
      (nested-sound : (what : Part) (inside : Inside)
      → Sound (nested what inside) (Nested what inside)) where
    block-sound : (inside : Inside) (l : ℕ) (i : List Symbol)
        → Gives (t.Suite Nested inside (sign s.Newline l ∷ i))
        (reading.block expressions nested inside i)
    unfolding reading.block
    block-sound inside l i =
        expect-gives (λ i. t.Suite Nested inside (sign s.Newline l ∷ i)) s.Indent _
        (λ m j. then_expect-gives s.Outdent _
        (rounds-gives Nothing (Joins (Nested part.Statement inside))
        (λ i. not (sees s.Outdent i)) (joins (nested part.Statement inside))
        (λ items k _. then-gives (nested-sound part.Statement inside k)
        (λ a r so. gives (Joins.joins so))) (length j) j ([], 0) j (begins Nothing.nothing))
        (λ body n r all. gives (t.Suite.block all))) i

    suite-sound : (inside : Inside)
        → Sound (reading.suite expressions nested inside) (t.Suite Nested inside)
    unfolding reading.suite
    suite-sound inside i = sees-gives (t.Suite Nested inside) s.Newline
        (λ _. reading.block expressions nested inside) (block-sound inside) i
        (λ _. widened (nested-sound part.Line inside i))
      where
        widened : {found : Option (Statements × List Symbol)}
            → Gives (Nested part.Line inside i) found
            → Gives (t.Suite Nested inside i) found
        widened refuses = refuses
        widened (gives so) = gives (t.Suite.line so)

    otherwise-sound : (inside : Inside)
        → Sound (reading.otherwise expressions nested inside) (t.Otherwise Nested inside)
    unfolding reading.otherwise reading.last_branch
    otherwise-sound inside i =
        cond_both (sees s.Elif i) (nested part.Elif inside i) _
        (Gives (t.Otherwise Nested inside i))
        (λ _. nested_elif (nested-sound part.Elif inside i))
        (λ _. sees-gives (t.Otherwise Nested inside) s.Else
        (λ _. reading.last_branch expressions nested inside)
        (λ l j. expect-gives (λ j. t.Otherwise Nested inside (sign s.Else l ∷ j)) s.Colon _
        (λ m k. last l m k (suite-sound (in_branch inside) k)) j) i
        (λ _. gives t.Otherwise.absent))
      where
        nested_elif : {found : Option (Statements × List Symbol)}
            → Gives (Nested part.Elif inside i) found
            → Gives (t.Otherwise Nested inside i) found
        nested_elif refuses = refuses
        nested_elif (gives so) = gives (t.Otherwise.elif so)

        last : (l m : ℕ) (k : List Symbol) {found : Option (Statements × List Symbol)}
            → Gives (t.Suite Nested (in_branch inside) k) found
            → Gives (t.Otherwise Nested inside (sign s.Else l ∷ sign s.Colon m ∷ k)) found
        last l m k refuses = refuses
        last l m k (gives so) = gives (t.Otherwise.else so)

    branch-sound : (first : Sign) (inside : Inside) (l : ℕ) (i : List Symbol)
        → Gives (t.Branch first Expressions Nested inside (sign first l ∷ i))
        (reading.branch expressions nested inside l i)
    unfolding reading.branch
    branch-sound first inside l i =
        then_expect-gives s.Colon _ (expressions-sound level.Test i)
        (λ test m j so. then-gives (suite-sound (in_branch inside) j)
        (λ chosen k also. then-gives (otherwise-sound inside k)
        (λ other r more. given_then-gives _ r _
        (λ a e. gives (t.Branch.branch so also more e)))))

    loop-sound : (inside : Inside) (l : ℕ) (i : List Symbol)
        → Gives (t.Statement Expressions Nested inside (sign s.For l ∷ i))
        (reading.loop expressions nested inside l i)
    unfolding reading.loop
    loop-sound inside l i =
        then_expect-gives s.In _
        (vars-sound (expressions level.Primary) (Expressions level.Primary)
        (expressions-sound level.Primary) i)
        (λ to m j so. then_expect-gives s.Colon _ (whole-sound j)
        (λ over n k also. then-gives (suite-sound (in_loop inside) k)
        (λ body r more. given_then-gives _ r _
        (λ a e. gives (t.Statement.loop so also more e)))))

    defined-sound : (inside : Inside) (called : List ℕ) (named_on l : ℕ) (i : List Symbol)
        → Gives (t.Statement Expressions Nested inside (sign s.Def l ∷ word called named_on ∷ i))
        (reading.defined expressions nested called named_on l i)
    unfolding reading.defined
    defined-sound inside called named_on l i =
        expect-gives (λ i. t.Statement Expressions Nested inside (sign s.Def l ∷ word called
        named_on ∷ i)) s.LeftRound _
        (λ m j. then-gives (listed_params-sound (expressions level.Test) (Expressions level.Test)
        (expressions-sound level.Test) j)
        (λ params k all. checked-gives (are_params params.0) _ k
        (λ so. met-gives (Listed s.RightRound (g.Param (Expressions level.Test)) j params)
        s.Colon _ (λ n k all. then-gives (suite-sound in_function k) (λ body r more.
        given_then-gives _ r _ (λ a e. gives (t.Statement.def all so more e)))) k all))) i

    definition-sound : (inside : Inside) (l : ℕ) (i : List Symbol)
        → Gives (t.Statement Expressions Nested inside (sign s.Def l ∷ i))
        (reading.definition expressions nested l i)
    unfolding reading.definition
    definition-sound inside l [] = refuses
    definition-sound inside l (symbol ∷ i) = go symbol.kind symbol.line
      where
        go : (is : SymbolKind) (m : ℕ)
            → Gives (t.Statement Expressions Nested inside (sign s.Def l ∷ record {
              kind = is;
              line
                  = m;
            } ∷ i)) (and_then (given (name_in is) i) (λ called. reading.defined expressions
            nested called m l))
        go (kind.Name called) m = defined-sound inside called m l i
        go (kind.Text _) m = refuses
        go (kind.Int _) m = refuses
        go (kind.Sign _) m = refuses

    statement-sound : (inside : Inside)
        → Sound (reading.statement expressions nested inside)
        (t.Statement Expressions Nested inside)
    unfolding reading.statement
    statement-sound inside i =
        sees-gives (t.Statement Expressions Nested inside) s.Def
        (reading.definition expressions nested) (definition-sound inside) i (λ _.
        sees-gives (t.Statement Expressions Nested inside) s.If
        (reading.branch expressions nested inside)
        (λ l j. branched (sign s.If l ∷ j) (branch-sound s.If inside l j)) i (λ _.
        sees-gives (t.Statement Expressions Nested inside) s.For
        (reading.loop expressions nested inside) (loop-sound inside) i
        (λ _. plain (simple-sound inside i))))
      where
        branched : (i : List Symbol) {found : Option (Statements × List Symbol)}
            → Gives (t.Branch s.If Expressions Nested inside i) found
            → Gives (t.Statement Expressions Nested inside i) found
        branched i refuses = refuses
        branched i (gives so) = gives (t.Statement.branch so)

        plain : {found : Option (Statements × List Symbol)}
            → Gives (t.Simple Expressions inside i) found
            → Gives (t.Statement Expressions Nested inside i) found
        plain refuses = refuses
        plain (gives so) = gives (t.Statement.simple so)

    elif-sound : (inside : Inside)
        → Sound (reading.elif expressions nested inside) (t.Branch s.Elif Expressions Nested inside)
    unfolding reading.elif
    elif-sound inside i = by_sign s.Elif
        (λ i. Gives (t.Branch s.Elif Expressions Nested inside i)
        (reading.elif expressions nested inside i))
        (λ l j. rw (same-sign s.Elif) (branch-sound s.Elif inside l j)) i (λ un. rw un refuses)

    of-sound : (what : Part) (inside : Inside)
        → Sound (reading.of expressions nested what inside) (t.Of Expressions Nested what inside)
    of-sound part.Statement inside = statement-sound inside
    of-sound part.Line inside = simple-sound inside
    of-sound part.Elif inside = elif-sound inside

pub stands-sound : (nesting : ℕ) (what : Part) (inside : Inside)
    → Sound (reading.stands nesting what inside) (t.Stands nesting what inside)
unfolding reading.stands t.Stands
stands-sound zero what inside i = refuses
stands-sound (suc nesting) what inside i = of-sound (reads nesting) (g.Spells nesting)
    (reads-sound nesting) (reading.stands nesting) (t.Stands nesting)
    (stands-sound nesting) what inside i

-- ---- files

file_part-sound : Sound reading.file_part t.FilePart
unfolding reading.file_part
file_part-sound i = sees-gives t.FilePart s.Newline (λ _. pure ([], 0))
    (λ l j. gives t.FilePart.newline) i (λ _. widened (stands-sound 128 part.Statement at_top i))
  where
    widened : {found : Option (Statements × List Symbol)}
        → Gives (t.Stands 128 part.Statement at_top i) found
        → Gives (t.FilePart i) found
    widened refuses = refuses
    widened (gives so) = gives (t.FilePart.statement so)

file_parts-sound : Sound reading.file_parts (Repeated Nothing (Joins t.FilePart))
unfolding reading.file_parts
file_parts-sound i = rounds-gives Nothing (Joins t.FilePart) reading.has_more
    (joins reading.file_part)
    (λ items k _. then-gives (file_part-sound k) (λ a r so. gives (Joins.joins so))) (length i) i
    ([], 0) i (begins Nothing.nothing)

abbrev file_or : BareFile → Option BareFile → BareFile
file_or other None = other
file_or other (Some f) = f

whole_file-sound : (symbols : List Symbol) (file : BareFile)
    (found : Option (Statements × List Symbol))
    → Gives (Repeated Nothing (Joins t.FilePart) symbols) found
    → reading.whole_file found ≡ Some file
    → t.IsFile symbols file
whole_file-sound symbols file _ refuses e = absurd (none-some file e)
whole_file-sound symbols file _ (gives {a} {r = rest} so) e = ended rest so e
  where
    ended : (rest : List Symbol)
        → Repeated Nothing (Joins t.FilePart) symbols a rest
        → reading.whole_file (Some (a, rest)) ≡ Some file
        → t.IsFile symbols file
    ended [] so e = subst (t.IsFile symbols) (ap (file_or file) e) (t.IsFile.file so)
    ended (symbol ∷ rest) so e = absurd (none-some file e)

-- the file that is read is spelled
pub file-sound : (symbols : List Symbol) (file : BareFile)
    → reading.file symbols ≡ Some file
    → t.IsFile symbols file
unfolding reading.file
file-sound symbols file e = whole_file-sound symbols file (reading.file_parts symbols)
    (file_parts-sound symbols) e
