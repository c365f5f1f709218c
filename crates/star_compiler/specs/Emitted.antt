-- What the pass leaves: tables that hold all that stood in them, and the code of a part in front of
-- what was there, whatever the tables come to hold besides.
use Rattle.std.specs.Prelude.{◌≡◌, ℕ, suc, ◌+◌, Bool, true, false, if◌then◌else◌, List, [], ◌∷◌}
use Rattle.std.specs.Prelude.{◌++◌, length, map}
use Rattle.std.specs.Prelude.{Option, Some, slice_get}
use Rattle.star_code.specs.Codes.{ArgCode, ArgsCode, BodyCode, BoundCode, ClausesCode}
use Rattle.star_code.specs.Codes.{ComprehensionCode, ExprCode, ExprsCode, FileCoded, FillCode}
use Rattle.star_code.specs.Codes.{Filling, FnCoded, Item, KindCode, MakeCode, PairsCode, StmtCode}
use Rattle.star_code.specs.Codes.{StmtsCode, Tables, TargetCode, TargetsCode, from_function}
use Rattle.star_code.specs.declared.code.FnEntry.{FnEntry}
use Rattle.star_code.specs.declared.code.Instr.{Instr}
use Rattle.star_code.specs.declared.code.Instr.TheVariants as instr
use Rattle.star_compiler.specs.declared.files.Compiled.{Compiled}
use Rattle.star_compiler.specs.declared.emitter.Emitter.{Emitter}
use Rattle.star_core.specs.Dicts.{Entry}
use Rattle.star_core.specs.Heaps.{HeapState, cell_at}
use Rattle.star_core.specs.declared.cells.Cell.TheVariants as cell
use Rattle.star_core.specs.declared.heap.HeapCell.{HeapCell}
use Rattle.star_core.specs.declared.values.Val.{Val}
use Rattle.star_meaning.specs.Arguments.{all_plain, way_of}
use Rattle.star_meaning.specs.Expressions.{literal_of}
use Rattle.star_meaning.specs.Parameters.{defaults_of}
use Rattle.star_meaning.specs.declared.arguments.Way.{Way}
use Rattle.star_trees.specs.declared.files.File.{File}
use Rattle.star_trees.specs.declared.files.FnBody.{FnBody}
use Rattle.star_trees.specs.declared.files.FnCode.{FnCode}
use Rattle.star_trees.specs.declared.files.Param.{Param}
use Rattle.star_trees.specs.declared.files.Param.TheVariants as param
use Rattle.star_trees.specs.declared.trees.Arg.{Arg}
use Rattle.star_trees.specs.declared.trees.Clause.{Clause}
use Rattle.star_trees.specs.declared.trees.Expr.{Expr}
use Rattle.star_trees.specs.declared.trees.ExprPair.{ExprPair}
use Rattle.star_trees.specs.declared.trees.Stmt.{Stmt}
use Rattle.star_trees.specs.declared.trees.StmtKind.{StmtKind}
use Rattle.star_trees.specs.declared.trees.Target.{Target}

abbrev pub tables_in : Emitter → Tables
tables_in emitter =
    record {
      blocks = emitter.blocks;
      names = emitter.names;
      shapes = emitter.shapes;
      literals = emitter.literals;
      least = emitter.least;
    }

-- what stands in the one tables stands in the others, and the same functions may be made
pub record Extends (less more : Tables) : Type 0 where
  pub blocks : (block : ℕ) (code : List Instr)
      → slice_get less.blocks block ≡ Some code
      → slice_get more.blocks block ≡ Some code
  pub names : (index : ℕ) (name : List ℕ)
      → slice_get less.names index ≡ Some name
      → slice_get more.names index ≡ Some name
  pub shapes : (index : ℕ) (ways : List Way)
      → slice_get less.shapes index ≡ Some ways
      → slice_get more.shapes index ≡ Some ways
  pub literals : (text : List ℕ) (value : Val)
      → literal_of less.literals text ≡ Some value
      → literal_of more.literals text ≡ Some value
  pub least : more.least ≡ less.least

-- each text that has a cell has one that holds it
pub record AreLiterals (heap : HeapState) (literals : List Entry) : Type 0 where
  pub each : (text : List ℕ) (value : Val)
      → literal_of literals text ≡ Some value
      → cell_at heap value ≡ Some (cell.Text text)

-- a heap that only has more cells, which cost nothing
pub record HasMoreCells (old new : HeapState) : Type 0 where
  pub cells : (number : ℕ) (held : HeapCell)
      → slice_get old.cells number ≡ Some held
      → slice_get new.cells number ≡ Some held
  pub frozen : new.frozen ≡ old.frozen
  pub sum : new.sum ≡ old.sum

-- the pass only adds to its tables and its heap, and the cells of texts stay theirs
pub record Grows (old new : Emitter) : Type 0 where
  pub tables : Extends (tables_in old) (tables_in new)
  pub heap : HasMoreCells old.heap new.heap
  pub literals : AreLiterals old.heap old.literals → AreLiterals new.heap new.literals

pub record BlockPut (code : List Instr) (block : ℕ) (old new : Emitter) : Type 0 where
  pub grows : Grows old new
  pub there : slice_get new.blocks block ≡ Some code

pub record NamePut (name : List ℕ) (index : ℕ) (old new : Emitter) : Type 0 where
  pub grows : Grows old new
  pub there : slice_get new.names index ≡ Some name

pub record ShapePut (ways : List Way) (index : ℕ) (old new : Emitter) : Type 0 where
  pub grows : Grows old new
  pub there : slice_get new.shapes index ≡ Some ways

pub record LiteralPut (text : List ℕ) (value : Val) (old new : Emitter) : Type 0 where
  pub grows : Grows old new
  pub there : literal_of new.literals text ≡ Some value

-- code of that kind stands in front, whatever the tables come to hold besides
pub record Emits (IsCode : Tables → List Instr → List Instr → Type 0)
    (old new : Emitter)
    (rest is : List Instr)
    : Type 0 where
  pub grows : Grows old new
  pub coded : (t : Tables) → Extends (tables_in new) t → IsCode t rest is

abbrev pub EmitsExpr : Expr → Emitter → Emitter → List Instr → List Instr → Type 0
EmitsExpr expr = Emits (λ t. ExprCode t expr)

abbrev pub EmitsExprs : List Expr → Emitter → Emitter → List Instr → List Instr → Type 0
EmitsExprs exprs = Emits (λ t. ExprsCode t exprs)

abbrev pub EmitsBound : Option Expr → Emitter → Emitter → List Instr → List Instr → Type 0
EmitsBound bound = Emits (λ t. BoundCode t bound)

abbrev pub EmitsPairs : List ExprPair → Emitter → Emitter → List Instr → List Instr → Type 0
EmitsPairs pairs = Emits (λ t. PairsCode t pairs)

abbrev pub EmitsArg : Arg → Emitter → Emitter → List Instr → List Instr → Type 0
EmitsArg arg = Emits (λ t. ArgCode t arg)

abbrev pub EmitsArgs : List Arg → Emitter → Emitter → List Instr → List Instr → Type 0
EmitsArgs args = Emits (λ t. ArgsCode t args)

abbrev pub EmitsTarget : Target → Emitter → Emitter → List Instr → List Instr → Type 0
EmitsTarget target = Emits (λ t. TargetCode t target)

abbrev pub EmitsTargets : List Target → Emitter → Emitter → List Instr → List Instr → Type 0
EmitsTargets targets = Emits (λ t. TargetsCode t targets)

abbrev pub EmitsKind : StmtKind → Emitter → Emitter → List Instr → List Instr → Type 0
EmitsKind kind = Emits (λ t. KindCode t kind)

abbrev pub EmitsStmt : Stmt → Emitter → Emitter → List Instr → List Instr → Type 0
EmitsStmt stmt = Emits (λ t. StmtCode t stmt)

abbrev pub EmitsStmts : List Stmt → Emitter → Emitter → List Instr → List Instr → Type 0
EmitsStmts stmts = Emits (λ t. StmtsCode t stmts)

-- the code that makes a function
abbrev pub Makes : Emitter → ℕ → List Instr → List Instr → Type 0
Makes emitter function = Emits (λ t. MakeCode t function) emitter emitter

-- the instructions of a call behind its arguments: those by position alone, or a shape
pub data CallIs (t : Tables) (args : List Arg) : (rest is : List Instr) → Type 0 where
  plainly : {rest : List Instr}
      → all_plain (map way_of args) ≡ true
      → CallIs t args rest (instr.Call (length args) ∷ rest)
  shaped : {shape : ℕ} {rest : List Instr}
      → slice_get t.shapes shape ≡ Some (map way_of args)
      → CallIs t args rest (instr.Gather shape ∷ instr.CallGathered ∷ rest)

abbrev pub CallPut : List Arg → Emitter → Emitter → List Instr → List Instr → Type 0
CallPut args = Emits (λ t. CallIs t args)

-- what is done in each turn of a comprehension
abbrev pub Fills : Filling → Emitter → Emitter → List Instr → Type 0
Fills fill old new code = Emits (λ t. FillCode t fill) old new [] code

abbrev pub ItemFill : Expr → Emitter → Emitter → List Instr → Type 0
ItemFill item = Fills (Item item)

-- a clause's code round that of the clauses behind it
pub record ClauseEmitted (of : Clause) (code : List Instr) (old new : Emitter) (out : List Instr)
    : Type 0 where
  pub grows : Grows old new
  pub coded : (t : Tables)
      → Extends (tables_in new) t
      → (fill : Filling) (clauses : List Clause)
      → ClausesCode t fill clauses [] code
      → ClausesCode t fill (of ∷ clauses) [] out

-- the block of a clause's turn
pub record ClauseTurn (to : Target) (inner : List Instr) (block : ℕ) (old new : Emitter)
    : Type 0 where
  pub grows : Grows old new
  pub code : List Instr
  pub there : slice_get new.blocks block ≡ Some code
  pub coded : (t : Tables) → Extends (tables_in new) t → TargetCode t to inner code

-- the first clause's code round that of the clauses behind it
pub record FirstClause (of : Clause) (code : List Instr) (old new : Emitter) (rest is : List Instr)
    : Type 0 where
  pub grows : Grows old new
  pub coded : (t : Tables)
      → Extends (tables_in new) t
      → (fill : Filling) (clauses : List Clause)
      → ClausesCode t fill clauses [] code
      → ComprehensionCode t fill (of ∷ clauses) rest is

-- a comprehension's code round what is done in each turn
pub record EmitsComprehension (clauses : List Clause) (code : List Instr) (old new : Emitter)
    (rest is : List Instr)
    : Type 0 where
  pub grows : Grows old new
  pub coded : (t : Tables)
      → Extends (tables_in new) t
      → (fill : Filling)
      → FillCode t fill [] code
      → ComprehensionCode t fill clauses rest is

-- an expression's code stands in a block of its own
pub record ExprBlock (expr : Expr) (block : ℕ) (old new : Emitter) : Type 0 where
  pub grows : Grows old new
  pub code : List Instr
  pub there : slice_get new.blocks block ≡ Some code
  pub coded : (t : Tables) → Extends (tables_in new) t → ExprCode t expr [] code

-- and that of statements
pub record StmtsBlock (stmts : List Stmt) (block : ℕ) (old new : Emitter) : Type 0 where
  pub grows : Grows old new
  pub code : List Instr
  pub there : slice_get new.blocks block ≡ Some code
  pub coded : (t : Tables) → Extends (tables_in new) t → StmtsCode t stmts [] code

-- the code of a loop's turn: its target takes the item, and its statements run
pub record TurnBlock (to : Target) (stmts : List Stmt) (block : ℕ) (old new : Emitter)
    : Type 0 where
  pub grows : Grows old new
  pub mid : List Instr
  pub code : List Instr
  pub there : slice_get new.blocks block ≡ Some code
  pub coded : (t : Tables)
      → Extends (tables_in new) t
      → StmtsCode t stmts [] mid × TargetCode t to mid code

-- the block of a function's body
pub record BodyBlock (body : FnBody) (block : ℕ) (old new : Emitter) : Type 0 where
  pub grows : Grows old new
  pub code : List Instr
  pub there : slice_get new.blocks block ≡ Some code
  pub coded : (t : Tables) → Extends (tables_in new) t → BodyCode t body code

-- the code of expressions in a block of its own
pub record ExprsBlock (exprs : List Expr) (block : ℕ) (old new : Emitter) : Type 0 where
  pub grows : Grows old new
  pub code : List Instr
  pub there : slice_get new.blocks block ≡ Some code
  pub coded : (t : Tables) → Extends (tables_in new) t → ExprsCode t exprs [] code

-- the same where no function up to one may be made
pub record DefaultsBlock (index : ℕ) (exprs : List Expr) (block : ℕ) (old new : Emitter)
    : Type 0 where
  pub grows : Grows old new
  pub code : List Instr
  pub there : slice_get new.blocks block ≡ Some code
  pub coded : (t : Tables)
      → Extends (tables_in new) t
      → ExprsCode (from_function (suc index) t) exprs [] code

abbrev pub has_default : Param → Bool
has_default (param.Required name) = false
has_default (param.Optional name default) = true
has_default param.Bare = false
has_default (param.Rest name) = false
has_default (param.Keywords name) = false

abbrev pub counted_with : Param → ℕ → ℕ
counted_with of count = if has_default of then count + 1 else count

-- a default's code in front, where there is one
abbrev pub EmitsDefault : Param → Emitter → Emitter → List Instr → List Instr → Type 0
EmitsDefault of old new rest is =
    (more : List Expr) (behind : List Instr) (before : Emitter)
    → EmitsExprs more before old behind rest
    → EmitsExprs (defaults_of (of ∷ []) ++ more) before new behind is

-- functions with their code, one by one, from this number on
pub data FnsCoded (t : Tables) : ℕ → List FnCode → List FnEntry → Type 0 where
  no_functions : {first : ℕ} → FnsCoded t first [] []
  one_function : {first : ℕ} {tree : FnCode} {entry : FnEntry} {trees : List FnCode}
      {entries : List FnEntry}
      → FnCoded t first tree entry
      → FnsCoded t (suc first) trees entries
      → FnsCoded t first (tree ∷ trees) (entry ∷ entries)

pub record FnEmitted (index : ℕ) (tree : FnCode) (old new : Emitter) (entry : FnEntry)
    : Type 0 where
  pub grows : Grows old new
  pub coded : (t : Tables) → Extends (tables_in new) t → FnCoded t index tree entry

pub record FnsEmitted (trees : List FnCode) (old new : Emitter) (entries : List FnEntry)
    : Type 0 where
  pub grows : Grows old new
  pub coded : (t : Tables) → Extends (tables_in new) t → FnsCoded t 0 trees entries

-- A file's code over the cells of the texts that it spells, in a heap that has these besides.
pub record IsCompiled (file : File) (heap : HeapState) (compiled : Compiled) : Type 0 where
  pub coded : FileCoded (record { tree = file; literals = compiled.literals }) compiled.code
  pub literals : AreLiterals compiled.heap compiled.literals
  pub more_cells : HasMoreCells heap compiled.heap
