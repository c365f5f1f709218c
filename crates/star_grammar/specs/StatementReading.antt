-- Statements and files, read: each reader for the rule of its name, with what nests as a parameter.
use Rattle.std.specs.Prelude.{ℕ, zero, suc, max, Bool, true, false, not, ◌||◌, if◌then◌else◌, List}
use Rattle.std.specs.Prelude.{[], ◌∷◌, Option, Some, None}
use Rattle.star_trees.specs.declared.trees.BinOp.{BinOp}
use Rattle.star_grammar.specs.declared.symbols.Sign.TheVariants as s
use Rattle.star_grammar.specs.declared.symbols.Symbol.{Symbol}
use Rattle.star_grammar.specs.declared.bare_expressions.Level.{Level}
use Rattle.star_grammar.specs.declared.bare_expressions.Level.TheVariants as level
use Rattle.star_grammar.specs.declared.bare_statements.BareFile.{BareFile}
use Rattle.star_grammar.specs.declared.bare_statements.BareLoadName.{BareLoadName}
use Rattle.star_grammar.specs.declared.bare_statements.BareStmt.{BareStmt}
use Rattle.star_grammar.specs.declared.bare_statements.BareStmtKind as st
use Rattle.star_grammar.specs.declared.bare_statements.BareStmtKind.{BareStmtKind}
use Rattle.star_trees.specs.declared.inside.Inside.{Inside}
use Rattle.star_grammar.specs.declared.bare_statements.Part.{Part}
use Rattle.star_grammar.specs.declared.bare_statements.Part.TheVariants as part
use Rattle.star_grammar.specs.Expressions.{Tree}
use Rattle.star_grammar.specs.ExpressionReading.{expression, vars, listed_params, reads}
use Rattle.star_grammar.specs.Operators as operators
use Rattle.star_grammar.specs.Orders.{are_params, is_place, is_target}
use Rattle.star_grammar.specs.Readers.{Reader, ◌>>=◌, ◌>>◌, pure, refuse, given, checked, sees}
use Rattle.star_grammar.specs.Readers.{behind, sees_word, front_of, skip, expect, name, text}
use Rattle.star_grammar.specs.Readers.{closed, turns, one, joins, more}
use Rattle.star_grammar.specs.Rules.{Deep, deep, front_line}
use Rattle.star_grammar.specs.Statements.{Statements, on_line}
use Rattle.star_trees.specs.Nesting.{deepest}
use Rattle.star_trees.specs.Surroundings.{at_top, in_branch, in_loop, in_function}

-- ---- loads

unfoldable pub loaded_same : ℕ → Reader (Deep BareLoadName)
loaded_same line = do
  called ← text
  pure (record { name = record { local = called; remote = called }; line = line }, 1)

unfoldable pub loaded_renamed : ℕ → Reader (Deep BareLoadName)
loaded_renamed line = do
  local ← name
  expect s.Assign
  remote ← text
  pure (record { name = record { local = local; remote = remote }; line = line }, 1)

unfoldable pub loaded : Reader (Deep BareLoadName)
loaded = λ i. if sees_word i then loaded_renamed (front_line i) i else loaded_same (front_line i) i

unfoldable pub loaded_names : Reader (Deep (List BareLoadName))
loaded_names = do
  names ← more s.Comma (Some s.RightRound) loaded ([], 0)
  closed s.Comma s.RightRound
  pure names

-- behind `load`
unfoldable pub load : Inside → ℕ → Reader (Deep BareStmt)
load inside line = do
  checked inside.top
  expect s.LeftRound
  file ← text
  names ← loaded_names
  given (deep (on_line line (st.Load file names.0)) names.1)

module _ (expressions : Level → Reader Tree) where
  -- ---- small statements

  abbrev whole : Reader Tree
  whole = expression (expressions level.Test)

  unfoldable pub returned_value : ℕ → Reader (Deep BareStmt)
  returned_value line = do
    value ← whole
    given (deep (on_line line (st.Return (Some value.0))) value.1)

  -- behind `return`
  unfoldable pub returned : Inside → ℕ → Reader (Deep BareStmt)
  returned inside line = checked inside.function >> (λ i.
      if sees s.Semicolon i || sees s.Newline i then Some ((on_line line (st.Return None), 1), i)
      else returned_value line i)

  -- behind `=`
  unfoldable pub assigned : ℕ → Tree → Reader (Deep BareStmt)
  assigned line to = do
    checked (is_target to.0)
    value ← whole
    given (deep (on_line line (st.Assign to.0 value.0)) (max to.1 value.1))

  -- from the operator on
  unfoldable pub changed : ℕ → Tree → BinOp → Reader (Deep BareStmt)
  changed line place op = do
    skip
    checked (is_place place.0)
    value ← whole
    given (deep (on_line line (st.Augment place.0 op value.0)) (max place.1 value.1))

  abbrev pub changed_by : ℕ → Tree → Option BinOp → Reader (Deep BareStmt)
  changed_by line first (Some op) = changed line first op
  changed_by line first None = given (deep (on_line line (st.Value first.0)) first.1)

  -- an assignment, an augmented one, or an expression
  unfoldable pub valued : ℕ → Reader (Deep BareStmt)
  valued line = do
    first ← whole
    (λ i. if sees s.Assign i then (skip >> assigned line first) i
        else changed_by line first (front_of operators.augmented i) i)

  unfoldable pub jump : Bool → ℕ → BareStmtKind → Reader (Deep BareStmt)
  jump allowed line kind = do
    skip
    checked allowed
    pure (on_line line kind, 1)

  unfoldable pub small : Inside → Reader (Deep BareStmt)
  small inside = λ i.
      if sees s.Return i then (skip >> returned inside (front_line i)) i
      else (if sees s.Break i then jump inside.looping (front_line i) st.Break i
      else (if sees s.Continue i then jump inside.looping (front_line i) st.Continue i
      else (if sees s.Pass i then jump true (front_line i) st.Pass i
      else (if sees s.Load i then (skip >> load inside (front_line i)) i else valued (front_line i)
      i))))

  unfoldable pub simple : Inside → Reader Statements
  simple inside = do
    first ← small inside
    body ← more s.Semicolon (Some s.Newline) (small inside) (one first)
    closed s.Semicolon s.Newline
    pure body

  -- ---- statements with suites

  module _ (nested : Part → Inside → Reader Statements) where
    -- behind `newline`
    unfoldable pub block : Inside → Reader Statements
    block inside = do
      expect s.Indent
      body ← turns (λ i. not (sees s.Outdent i)) (joins (nested part.Statement inside)) ([], 0)
      expect s.Outdent
      pure body

    unfoldable pub suite : Inside → Reader Statements
    suite inside = λ i. if sees s.Newline i then (skip >> block inside) i
        else nested part.Line inside i

    -- behind `else`
    unfoldable pub last_branch : Inside → Reader Statements
    last_branch inside = expect s.Colon >> suite (in_branch inside)

    unfoldable pub otherwise : Inside → Reader Statements
    otherwise inside = λ i.
        if sees s.Elif i then nested part.Elif inside i
        else (if sees s.Else i then (skip >> last_branch inside) i else Some (([], 0), i))

    -- behind `if` or `elif`
    unfoldable pub branch : Inside → ℕ → Reader Statements
    branch inside line = do
      test ← expressions level.Test
      expect s.Colon
      chosen ← suite (in_branch inside)
      other ← otherwise inside
      whole ← given (deep (on_line line (st.If test.0 chosen.0 other.0)) (max test.1 (max chosen.1
          other.1)))
      pure (one whole)

    -- behind `for`
    unfoldable pub loop : Inside → ℕ → Reader Statements
    loop inside line = do
      to ← vars (expressions level.Primary)
      expect s.In
      over ← whole
      expect s.Colon
      body ← suite (in_loop inside)
      whole ← given (deep (on_line line (st.For to.0 over.0 body.0)) (max to.1 (max over.1 body.1)))
      pure (one whole)

    -- behind `def` and the name
    unfoldable pub defined : List ℕ → ℕ → ℕ → Reader Statements
    defined called named_on line = do
      expect s.LeftRound
      params ← listed_params (expressions level.Test)
      checked (are_params params.0)
      expect s.Colon
      body ← suite in_function
      whole ← given (deep (on_line line (st.Def (record { name = called; line = named_on }) params.0
          body.0)) (max params.1 body.1))
      pure (one whole)

    -- behind `def`
    unfoldable pub definition : ℕ → Reader Statements
    definition line = λ i. (do called ← name; defined called (front_line i) line) i

    unfoldable pub statement : Inside → Reader Statements
    statement inside = λ i.
        if sees s.Def i then (skip >> definition (front_line i)) i
        else (if sees s.If i then (skip >> branch inside (front_line i)) i
        else (if sees s.For i then (skip >> loop inside (front_line i)) i else simple inside i))

    -- from an `elif` on
    unfoldable pub elif : Inside → Reader Statements
    elif inside = λ i. (expect s.Elif >> branch inside (front_line i)) i

    abbrev pub of : Part → Inside → Reader Statements
    of part.Statement inside = statement inside
    of part.Line inside = simple inside
    of part.Elif inside = elif inside

-- statements in which so many constructs nest at most
unfoldable pub stands : ℕ → Part → Inside → Reader Statements
stands zero what inside = refuse
stands (suc nesting) what inside = of (reads nesting) (stands nesting) what inside

unfoldable pub file_part : Reader Statements
file_part = λ i. if sees s.Newline i then Some (([], 0), behind i)
    else stands deepest part.Statement at_top i

abbrev pub has_more : List Symbol → Bool
has_more [] = false
has_more (symbol ∷ i) = true

unfoldable pub file_parts : Reader Statements
file_parts = turns has_more (joins file_part) ([], 0)

abbrev pub whole_file : Option (Statements × List Symbol) → Option BareFile
whole_file (Some (body, [])) = Some (record { body = body.0 })
whole_file _ = None

-- the file of these symbols, all of them
unfoldable pub file : List Symbol → Option BareFile
file i = whole_file (file_parts i)
