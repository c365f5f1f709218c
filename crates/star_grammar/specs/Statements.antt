-- The grammar of files and statements: the Starlark specification, "Statements". Each constructor
-- is a production; what nests is read by the rules of one nesting less.
use Rattle.std.specs.Prelude.{◌≡◌, ℕ, zero, suc, max, true, List, [], ◌∷◌, Some, None}
use Rattle.star_trees.specs.declared.trees.BinOp.{BinOp}
use Rattle.star_grammar.specs.declared.symbols.Sign.{Sign}
use Rattle.star_grammar.specs.declared.symbols.Sign.TheVariants as s
use Rattle.star_grammar.specs.declared.symbols.Symbol.{Symbol}
use Rattle.star_grammar.specs.declared.bare_expressions.BareParam.{BareParam}
use Rattle.star_grammar.specs.declared.bare_expressions.Level.{Level}
use Rattle.star_grammar.specs.declared.bare_expressions.Level.TheVariants as level
use Rattle.star_grammar.specs.declared.bare_statements.BareFile.{BareFile}
use Rattle.star_grammar.specs.declared.bare_statements.BareLoadName.{BareLoadName}
use Rattle.star_grammar.specs.declared.bare_statements.BareStmt.{BareStmt, roll-BareStmt}
use Rattle.star_grammar.specs.declared.bare_statements.BareStmtKind as st
use Rattle.star_grammar.specs.declared.bare_statements.BareStmtKind.{BareStmtKind}
use Rattle.star_trees.specs.declared.inside.Inside.{Inside}
use Rattle.star_grammar.specs.declared.bare_statements.Part.{Part}
use Rattle.star_grammar.specs.declared.bare_statements.Part.TheVariants as part
use Rattle.star_grammar.specs.Expressions.{Tree, Expression, Vars, Param, Spells}
use Rattle.star_grammar.specs.Operators.{augmented}
use Rattle.star_grammar.specs.Orders.{are_params, is_place, is_target}
use Rattle.star_grammar.specs.Rules.{Rule, sign, word, string, front_line, Deep, deep, Repeated}
use Rattle.star_grammar.specs.Rules.{Nothing, Adds, Joins, After, Series, Closed, Listed}
use Rattle.star_trees.specs.Nesting.{deepest}
use Rattle.star_trees.specs.Surroundings.{at_top, in_branch, in_function, in_loop}

abbrev pub Statements : Type 0
Statements = Deep (List BareStmt)

-- a statement on a line
abbrev pub on_line : ℕ → BareStmtKind → BareStmt
on_line line kind = roll-BareStmt (record { line = line; kind = kind })

-- ---- small statements

-- [identifier '='] string
pub data Loaded : List Symbol → Deep BareLoadName → List Symbol → Type 0 where
  same : {r : List Symbol} {name : List ℕ} {l : ℕ}
      → Loaded (string name l ∷ r)
      (record { name = record { local = name; remote = name }; line = l }, 1) r
  renamed : {r : List Symbol} {local remote : List ℕ} {l m n : ℕ}
      → Loaded (word local l ∷ sign s.Assign m ∷ string remote n ∷ r)
      (record { name = record { local = local; remote = remote }; line = l }, 1) r

-- {',' [identifier '='] string} [','] ')'
abbrev pub LoadedNames : Rule (Deep (List BareLoadName))
LoadedNames = Closed s.Comma s.RightRound (Repeated Nothing (Adds (After s.Comma Loaded)))

-- Small = 'return' [Expression] | 'break' | 'continue' | 'pass' | Load | Vars '=' Expression |
-- Place Augmented Expression | Expression
pub data Small (expressions : Level → Rule Tree) (inside : Inside) : List Symbol
    → Deep BareStmt
    → List Symbol
    → Type 0 where
  returned_nothing : {r : List Symbol} {l : ℕ}
      → inside.function ≡ true
      → Small expressions inside (sign s.Return l ∷ r) (on_line l (st.Return None), 1) r
  returned : {i r : List Symbol} {l : ℕ} {value : Tree} {a : Deep BareStmt}
      → inside.function ≡ true
      → Expression (expressions level.Test) i value r
      → deep (on_line l (st.Return (Some value.0))) value.1 ≡ Some a
      → Small expressions inside (sign s.Return l ∷ i) a r
  breaks : {r : List Symbol} {l : ℕ}
      → inside.looping ≡ true
      → Small expressions inside (sign s.Break l ∷ r) (on_line l st.Break, 1) r
  continues : {r : List Symbol} {l : ℕ}
      → inside.looping ≡ true
      → Small expressions inside (sign s.Continue l ∷ r) (on_line l st.Continue, 1) r
  passes : {r : List Symbol} {l : ℕ}
      → Small expressions inside (sign s.Pass l ∷ r) (on_line l st.Pass, 1) r
  -- Load = 'load' '(' string {',' [identifier '='] string} [','] ')'
  loads : {i r : List Symbol} {l m n : ℕ} {file : List ℕ} {names : Deep
      (List BareLoadName)} {a : Deep BareStmt}
      → inside.top ≡ true
      → LoadedNames i names r
      → deep (on_line l (st.Load file names.0)) names.1 ≡ Some a
      → Small expressions inside (sign s.Load l ∷ sign s.LeftRound m ∷ string file n ∷ i) a r
  assigned : {i j r : List Symbol} {l : ℕ} {to value : Tree} {a : Deep BareStmt}
      → Expression (expressions level.Test) i to (sign s.Assign l ∷ j)
      → is_target to.0 ≡ true
      → Expression (expressions level.Test) j value r
      → deep (on_line (front_line i) (st.Assign to.0 value.0)) (max to.1 value.1) ≡ Some a
      → Small expressions inside i a r
  changed : {i j r : List Symbol} {what : Sign} {l : ℕ} {op : BinOp} {place value : Tree}
      {a : Deep BareStmt}
      → Expression (expressions level.Test) i place (sign what l ∷ j)
      → augmented what ≡ Some op
      → is_place place.0 ≡ true
      → Expression (expressions level.Test) j value r
      → deep (on_line (front_line i) (st.Augment place.0 op value.0)) (max place.1 value.1) ≡ Some a
      → Small expressions inside i a r
  valued : {i r : List Symbol} {value : Tree} {a : Deep BareStmt}
      → Expression (expressions level.Test) i value r
      → deep (on_line (front_line i) (st.Value value.0)) value.1 ≡ Some a
      → Small expressions inside i a r

-- Simple = Small {';' Small} [';'] newline
abbrev pub Simple : (Level → Rule Tree) → Inside → Rule Statements
Simple expressions inside = Closed s.Semicolon s.Newline
    (Series s.Semicolon (Small expressions inside))

-- ---- statements with suites

-- Suite = newline indent {Statement} outdent | Simple
pub data Suite (nested : Part → Inside → Rule Statements) (inside : Inside) : List Symbol
    → Statements
    → List Symbol
    → Type 0 where
  block : {i r : List Symbol} {l m n : ℕ} {body : Statements}
      → Repeated Nothing (Joins (nested part.Statement inside)) i body (sign s.Outdent n ∷ r)
      → Suite nested inside (sign s.Newline l ∷ sign s.Indent m ∷ i) body r
  line : {i r : List Symbol} {body : Statements}
      → nested part.Line inside i body r
      → Suite nested inside i body r

-- ['elif' .. | 'else' ':' Suite]: an `elif` is an `if` nested in the `else` of the one before it
pub data Otherwise (nested : Part → Inside → Rule Statements) (inside : Inside) : List Symbol
    → Statements
    → List Symbol
    → Type 0 where
  absent : {i : List Symbol} → Otherwise nested inside i ([], 0) i
  elif : {i r : List Symbol} {body : Statements}
      → nested part.Elif inside i body r
      → Otherwise nested inside i body r
  else : {i r : List Symbol} {l m : ℕ} {body : Statements}
      → Suite nested (in_branch inside) i body r
      → Otherwise nested inside (sign s.Else l ∷ sign s.Colon m ∷ i) body r

-- If = 'if' Test ':' Suite {'elif' Test ':' Suite} ['else' ':' Suite], from an `if` or an `elif` on
pub data Branch (first : Sign) (expressions : Level → Rule Tree)
    (nested : Part → Inside → Rule Statements) (inside : Inside) : List Symbol
    → Statements
    → List Symbol
    → Type 0 where
  branch : {i j k r : List Symbol} {l m : ℕ} {test : Tree} {then other : Statements}
      {a : Deep BareStmt}
      → expressions level.Test i test (sign s.Colon m ∷ j)
      → Suite nested (in_branch inside) j then k
      → Otherwise nested inside k other r
      → deep (on_line l (st.If test.0 then.0 other.0)) (max test.1 (max then.1 other.1)) ≡ Some a
      → Branch first expressions nested inside (sign first l ∷ i) (a.0 ∷ [], a.1) r

-- Statement = Def | If | For | Simple
pub data Statement (expressions : Level → Rule Tree) (nested : Part → Inside → Rule Statements)
    (inside : Inside) : List Symbol → Statements → List Symbol → Type 0 where
  -- Def = 'def' identifier '(' [Param {',' Param} [',']] ')' ':' Suite
  def : {i j r : List Symbol} {l m n k : ℕ} {name : List ℕ} {params : Deep
      (List BareParam)} {body : Statements} {a : Deep BareStmt}
      → Listed s.RightRound (Param (expressions level.Test)) i params (sign s.Colon k ∷ j)
      → are_params params.0 ≡ true
      → Suite nested in_function j body r
      → deep (on_line l (st.Def (record { name = name; line = m }) params.0 body.0))
      (max params.1 body.1) ≡ Some a
      → Statement expressions nested inside (sign s.Def l ∷ word name m ∷ sign s.LeftRound n ∷ i)
      (a.0 ∷ [], a.1) r
  branch : {i r : List Symbol} {a : Statements}
      → Branch s.If expressions nested inside i a r
      → Statement expressions nested inside i a r
  -- For = 'for' Vars 'in' Expression ':' Suite
  loop : {i j k r : List Symbol} {l m n : ℕ} {to over : Tree} {body : Statements}
      {a : Deep BareStmt}
      → Vars (expressions level.Primary) i to (sign s.In m ∷ j)
      → Expression (expressions level.Test) j over (sign s.Colon n ∷ k)
      → Suite nested (in_loop inside) k body r
      → deep (on_line l (st.For to.0 over.0 body.0)) (max to.1 (max over.1 body.1)) ≡ Some a
      → Statement expressions nested inside (sign s.For l ∷ i) (a.0 ∷ [], a.1) r
  simple : {i r : List Symbol} {body : Statements}
      → Simple expressions inside i body r
      → Statement expressions nested inside i body r

-- one layer of each part over what nests in it
abbrev pub Of : (Level → Rule Tree)
    → (Part → Inside → Rule Statements)
    → Part
    → Inside
    → Rule Statements
Of expressions nested part.Statement inside = Statement expressions nested inside
Of expressions nested part.Line inside = Simple expressions inside
Of expressions nested part.Elif inside = Branch s.Elif expressions nested inside

-- statements in which so many constructs nest at most
unfoldable pub Stands : ℕ → Part → Inside → Rule Statements
Stands zero what inside i a r = ⊥
Stands (suc nesting) what inside i a r = Of (Spells nesting) (Stands nesting) what inside i a r

-- Statement | newline
pub data FilePart : List Symbol → Statements → List Symbol → Type 0 where
  statement : {i r : List Symbol} {body : Statements}
      → Stands deepest part.Statement at_top i body r
      → FilePart i body r
  newline : {r : List Symbol} {l : ℕ} → FilePart (sign s.Newline l ∷ r) ([], 0) r

-- File = {Statement | newline}: these symbols, all of them, are this file
pub data IsFile (symbols : List Symbol) (file : BareFile) : Type 0 where
  file : {depth : ℕ}
      → Repeated Nothing (Joins FilePart) symbols (file.body, depth) []
      → IsFile symbols file
