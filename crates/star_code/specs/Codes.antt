-- Which code is that of which tree. The relation threads what comes behind: the code of a part
-- stands in front of that.
use Rattle.std.specs.Prelude.{◌≡◌, ℕ, suc, ℤ, Bool, true, false, nat_lt, List, [], ◌∷◌, length, map}
use Rattle.std.specs.Prelude.{Option, Some, None, slice_get}
use Rattle.star_code.specs.declared.code.Code.{Code}
use Rattle.star_code.specs.declared.code.FnEntry.{FnEntry}
use Rattle.star_code.specs.declared.code.Instr.{Instr}
use Rattle.star_code.specs.declared.code.Instr.TheVariants as instr
use Rattle.star_core.specs.Conditions.{printed_name}
use Rattle.star_core.specs.Dicts.{Entry}
use Rattle.star_core.specs.declared.values.Val.{Val}
use Rattle.star_core.specs.declared.values.Val.TheVariants as val
use Rattle.star_meaning.specs.Arguments.{all_plain, way_of}
use Rattle.star_meaning.specs.Expressions.{Program, goes_right_on, literal_of}
use Rattle.star_meaning.specs.Parameters.{defaults_of, formal_of}
use Rattle.star_meaning.specs.declared.arguments.Way.{Way}
use Rattle.star_trees.specs.Orders.{is_assignable}
use Rattle.star_trees.specs.declared.files.FnBody.{FnBody}
use Rattle.star_trees.specs.declared.files.FnBody.TheVariants as body
use Rattle.star_trees.specs.declared.files.FnCode.{FnCode}
use Rattle.star_trees.specs.declared.trees.Arg as arg
use Rattle.star_trees.specs.declared.trees.Arg.{Arg}
use Rattle.star_trees.specs.declared.trees.BinOp.{BinOp}
use Rattle.star_trees.specs.declared.trees.Clause as clause
use Rattle.star_trees.specs.declared.trees.Clause.{Clause}
use Rattle.star_trees.specs.declared.trees.Expr as e
use Rattle.star_trees.specs.declared.trees.Expr.{Expr}
use Rattle.star_trees.specs.declared.trees.ExprPair.{ExprPair, roll-ExprPair}
use Rattle.star_trees.specs.declared.trees.Stmt.{Stmt, roll-Stmt}
use Rattle.star_trees.specs.declared.trees.StmtKind as st
use Rattle.star_trees.specs.declared.trees.StmtKind.{StmtKind}
use Rattle.star_trees.specs.declared.trees.Target as target
use Rattle.star_trees.specs.declared.trees.Target.{Target}
use Rattle.star_trees.specs.declared.trees.UnOp.{UnOp}
use Rattle.star_trees.specs.declared.trees.Var.{Var}

-- the blocks and the names of a file's code, the shapes of its calls, the cells of the texts that
-- the file spells, and which functions of the file may be made: this one and those behind it
pub record Tables : Type 0 where
  pub blocks : List (List Instr)
  pub names : List (List ℕ)
  pub shapes : List (List Way)
  pub literals : List Entry
  pub least : ℕ

-- what a comprehension puts into its container for each turn
pub data Filling : Type 0 where
  Item : Expr → Filling
  Pair : (key value : Expr) → Filling

-- The code that makes a function of the file: its defaults are evaluated by a block of their own. A
-- function before those that may be made is refused.
pub data MakeCode (t : Tables) : ℕ → (rest is : List Instr) → Type 0 where
  may : {function : ℕ} {rest : List Instr}
      → nat_lt function t.least ≡ false
      → MakeCode t function rest (instr.Defaults function ∷ instr.Def function ∷ rest)
  may_not : {function : ℕ} {rest : List Instr}
      → nat_lt function t.least ≡ true
      → MakeCode t function rest (instr.NotAssignable ∷ rest)

-- a block of the tables is this code
abbrev pub BlockAt : Tables → ℕ → List Instr → Type 0
BlockAt tables block code = slice_get tables.blocks block ≡ Some code

mutual
  -- the code of an expression, which puts its value on the stack
  pub data ExprCode (t : Tables) : Expr → (rest is : List Instr) → Type 0 where
    name : {var : Var} {rest : List Instr}
        → ExprCode t (e.Name var) rest (instr.Name var.scope var.slot ∷ rest)
    int : {number : ℤ} {rest : List Instr}
        → ExprCode t (e.Int number) rest (instr.Constant (val.Int number) ∷ rest)
    text : {text : List ℕ} {value : Val} {rest : List Instr}
        → literal_of t.literals text ≡ Some value
        → ExprCode t (e.Text text) rest (instr.Constant value ∷ rest)
    list : {items : List Expr} {rest is : List Instr}
        → ExprsCode t items (instr.List (length items) ∷ rest) is
        → ExprCode t (e.List items) rest (instr.Tick ∷ is)
    tuple : {items : List Expr} {rest is : List Instr}
        → ExprsCode t items (instr.Tuple (length items) ∷ rest) is
        → ExprCode t (e.Tuple items) rest (instr.Tick ∷ is)
    dict : {pairs : List ExprPair} {rest is : List Instr}
        → PairsCode t pairs rest is
        → ExprCode t (e.Dict pairs) rest (instr.Tick ∷ instr.Dict ∷ is)
    list_comp : {item : Expr} {clauses : List Clause} {rest is : List Instr}
        → ComprehensionCode t (Item item) clauses rest is
        → ExprCode t (e.ListComp item clauses) rest (instr.Tick ∷ instr.List 0 ∷ is)
    dict_comp : {key value : Expr} {clauses : List Clause} {rest is : List Instr}
        → ComprehensionCode t (Pair key value) clauses rest is
        → ExprCode t (e.DictComp key value clauses) rest (instr.Tick ∷ instr.Dict ∷ is)
    unary : {op : UnOp} {of : Expr} {rest is : List Instr}
        → ExprCode t of (instr.Unary op ∷ rest) is
        → ExprCode t (e.Unary op of) rest (instr.Tick ∷ is)
    binary : {op : BinOp} {left right : Expr} {rest mid is : List Instr}
        → goes_right_on op ≡ None
        → ExprCode t right (instr.Binary op ∷ rest) mid
        → ExprCode t left mid is
        → ExprCode t (e.Binary op left right) rest (instr.Tick ∷ is)
    short : {op : BinOp} {left right : Expr} {wanted : Bool} {block : ℕ}
        {code rest is : List Instr}
        → goes_right_on op ≡ Some wanted
        → BlockAt t block code
        → ExprCode t right [] code
        → ExprCode t left (instr.Short wanted block ∷ rest) is
        → ExprCode t (e.Binary op left right) rest (instr.Tick ∷ is)
    conditional : {test chosen other : Expr} {chosen_at other_at : ℕ}
        {chosen_code other_code rest is : List Instr}
        → BlockAt t chosen_at chosen_code
        → ExprCode t chosen [] chosen_code
        → BlockAt t other_at other_code
        → ExprCode t other [] other_code
        → ExprCode t test (instr.If chosen_at other_at ∷ rest) is
        → ExprCode t (e.Cond test chosen other) rest (instr.Tick ∷ is)
    lambda : {function : ℕ} {rest is : List Instr}
        → MakeCode t function rest is
        → ExprCode t (e.Lambda function) rest (instr.Tick ∷ is)
    attribute : {of : Expr} {name : List ℕ} {index : ℕ} {rest is : List Instr}
        → slice_get t.names index ≡ Some name
        → ExprCode t of (instr.Attr index ∷ rest) is
        → ExprCode t (e.Attr of name) rest (instr.Tick ∷ is)
    index : {of at : Expr} {rest mid is : List Instr}
        → ExprCode t at (instr.Index ∷ rest) mid
        → ExprCode t of mid is
        → ExprCode t (e.Index of at) rest (instr.Tick ∷ is)
    slice : {of : Expr} {begin end step : Option Expr} {rest third second first is : List Instr}
        → BoundCode t step (instr.Slice ∷ rest) third
        → BoundCode t end third second
        → BoundCode t begin second first
        → ExprCode t of first is
        → ExprCode t (e.Slice of begin end step) rest (instr.Tick ∷ is)
    call : {function : Expr} {args : List Arg} {rest mid is : List Instr}
        → all_plain (map way_of args) ≡ true
        → ArgsCode t args (instr.Call (length args) ∷ rest) mid
        → ExprCode t function mid is
        → ExprCode t (e.Call function args) rest (instr.Tick ∷ is)
    gathered_call : {function : Expr} {args : List Arg} {shape : ℕ} {rest mid is : List Instr}
        → slice_get t.shapes shape ≡ Some (map way_of args)
        → ArgsCode t args (instr.Gather shape ∷ instr.CallGathered ∷ rest) mid
        → ExprCode t function mid is
        → ExprCode t (e.Call function args) rest (instr.Tick ∷ is)

  -- that of expressions in turn
  pub data ExprsCode (t : Tables) : List Expr → (rest is : List Instr) → Type 0 where
    none : {rest : List Instr} → ExprsCode t [] rest rest
    some : {first : Expr} {more : List Expr} {rest mid is : List Instr}
        → ExprsCode t more rest mid
        → ExprCode t first mid is
        → ExprsCode t (first ∷ more) rest is

  -- that of an expression that needn't be there: None in its place
  pub data BoundCode (t : Tables) : Option Expr → (rest is : List Instr) → Type 0 where
    absent : {rest : List Instr} → BoundCode t None rest (instr.Push val.None ∷ rest)
    there : {bound : Expr} {rest is : List Instr}
        → ExprCode t bound rest is
        → BoundCode t (Some bound) rest is

  -- that of a display's entries, which are put into the dictionary on the stack
  pub data PairsCode (t : Tables) : List ExprPair → (rest is : List Instr) → Type 0 where
    no_pairs : {rest : List Instr} → PairsCode t [] rest rest
    pair : {key value : Expr} {more : List ExprPair} {rest after mid is : List Instr}
        → PairsCode t more rest after
        → ExprCode t value (instr.Entry ∷ after) mid
        → ExprCode t key mid is
        → PairsCode t (roll-ExprPair (record { key = key; value = value }) ∷ more) rest is

  pub data ArgCode (t : Tables) : Arg → (rest is : List Instr) → Type 0 where
    positional : {value : Expr} {rest is : List Instr}
        → ExprCode t value rest is
        → ArgCode t (arg.Positional value) rest is
    named : {name : List ℕ} {value : Expr} {rest is : List Instr}
        → ExprCode t value rest is
        → ArgCode t (arg.Named name value) rest is
    star : {value : Expr} {rest is : List Instr}
        → ExprCode t value (instr.CheckItems ∷ rest) is
        → ArgCode t (arg.Star value) rest is
    double_star : {value : Expr} {rest is : List Instr}
        → ExprCode t value (instr.CheckKeywords ∷ rest) is
        → ArgCode t (arg.DoubleStar value) rest is

  pub data ArgsCode (t : Tables) : List Arg → (rest is : List Instr) → Type 0 where
    all_args : {rest : List Instr} → ArgsCode t [] rest rest
    one_arg : {first : Arg} {more : List Arg} {rest mid is : List Instr}
        → ArgsCode t more rest mid
        → ArgCode t first mid is
        → ArgsCode t (first ∷ more) rest is

  -- the code of a target, to which the top of the stack is assigned
  pub data TargetCode (t : Tables) : Target → (rest is : List Instr) → Type 0 where
    to_name : {var : Var} {rest : List Instr}
        → TargetCode t (target.Name var) rest (instr.Set var.scope var.slot ∷ rest)
    to_index : {of at : Expr} {rest mid is : List Instr}
        → ExprCode t at (instr.SetIndex ∷ rest) mid
        → ExprCode t of mid is
        → TargetCode t (target.Index of at) rest is
    to_many : {targets : List Target} {rest is : List Instr}
        → TargetsCode t targets rest is
        → TargetCode t (target.Many targets) rest (instr.Unpack (length targets) ∷ is)

  pub data TargetsCode (t : Tables) : List Target → (rest is : List Instr) → Type 0 where
    no_target : {rest : List Instr} → TargetsCode t [] rest rest
    one_target : {first : Target} {more : List Target} {rest mid is : List Instr}
        → TargetsCode t more rest mid
        → TargetCode t first mid is
        → TargetsCode t (first ∷ more) rest is

  -- what a comprehension does in each turn: the container lies below
  pub data FillCode (t : Tables) : Filling → (rest is : List Instr) → Type 0 where
    fill_item : {of : Expr} {rest is : List Instr}
        → ExprCode t of (instr.Collect ∷ rest) is
        → FillCode t (Item of) rest is
    fill_entry : {key value : Expr} {rest mid is : List Instr}
        → ExprCode t value (instr.CollectEntry ∷ rest) mid
        → ExprCode t key mid is
        → FillCode t (Pair key value) rest is

  -- that of clauses within which a container is filled
  pub data ClausesCode (t : Tables)
      : Filling → List Clause → (rest is : List Instr) → Type 0 where
    inmost : {fill : Filling} {rest is : List Instr}
        → FillCode t fill rest is
        → ClausesCode t fill [] rest is
    each : {fill : Filling} {to : Target} {over : Expr} {clauses : List Clause} {block : ℕ}
        {code mid rest is : List Instr}
        → BlockAt t block code
        → ClausesCode t fill clauses [] mid
        → TargetCode t to mid code
        → ExprCode t over (instr.For block ∷ rest) is
        → ClausesCode t fill (clause.For to over ∷ clauses) rest is
    where_true : {fill : Filling} {test : Expr} {clauses : List Clause} {chosen other : ℕ}
        {code rest is : List Instr}
        → BlockAt t chosen code
        → ClausesCode t fill clauses [] code
        → BlockAt t other []
        → ExprCode t test (instr.If chosen other ∷ rest) is
        → ClausesCode t fill (clause.If test ∷ clauses) rest is

  -- that of a comprehension's clauses: the operand of the first one lies outside its scope
  pub data ComprehensionCode (t : Tables)
      : Filling → List Clause → (rest is : List Instr) → Type 0 where
    no_clause : {fill : Filling} {rest : List Instr}
        → ComprehensionCode t fill [] rest (instr.NotAssignable ∷ rest)
    no_loop : {fill : Filling} {rest : List Instr} (test : Expr) (clauses : List Clause)
        → ComprehensionCode t fill (clause.If test ∷ clauses) rest (instr.NotAssignable ∷ rest)
    each_within : {fill : Filling} {to : Target} {over : Expr} {clauses : List Clause}
        {inside block : ℕ}
        {code mid rest is : List Instr}
        → BlockAt t inside (instr.For block ∷ [])
        → BlockAt t block code
        → ClausesCode t fill clauses [] mid
        → TargetCode t to mid code
        → ExprCode t over (instr.Within inside ∷ rest) is
        → ComprehensionCode t fill (clause.For to over ∷ clauses) rest is

-- the code of an augmented assignment to an expression
pub data AugmentCode (t : Tables) (op : BinOp) (value : Expr)
    : Expr → (rest is : List Instr) → Type 0 where
  name : {var : Var} {rest is : List Instr}
      → ExprCode t value (instr.AugmentName op var.scope var.slot ∷ rest) is
      → AugmentCode t op value (e.Name var) rest (instr.Name var.scope var.slot ∷ is)
  index : {of at : Expr} {rest third mid is : List Instr}
      → ExprCode t value (instr.AugmentIndex op ∷ rest) third
      → ExprCode t at (instr.Fetch ∷ third) mid
      → ExprCode t of mid is
      → AugmentCode t op value (e.Index of at) rest (instr.Tick ∷ is)
  other : {to : Expr} {rest : List Instr}
      → is_assignable to ≡ false
      → AugmentCode t op value to rest (instr.NotAssignable ∷ rest)

mutual
  -- the code of what a statement says
  pub data KindCode (t : Tables) : StmtKind → (rest is : List Instr) → Type 0 where
    define : {function : ℕ} {to : Var} {rest is : List Instr}
        → MakeCode t function (instr.Set to.scope to.slot ∷ rest) is
        → KindCode t (st.Def function to) rest is
    branch : {test : Expr} {chosen other : List Stmt} {chosen_at other_at : ℕ}
        {chosen_code other_code rest is : List Instr}
        → BlockAt t chosen_at chosen_code
        → StmtsCode t chosen [] chosen_code
        → BlockAt t other_at other_code
        → StmtsCode t other [] other_code
        → ExprCode t test (instr.If chosen_at other_at ∷ rest) is
        → KindCode t (st.If test chosen other) rest is
    loop : {to : Target} {over : Expr} {body : List Stmt} {block : ℕ}
        {code mid rest is : List Instr}
        → BlockAt t block code
        → StmtsCode t body [] mid
        → TargetCode t to mid code
        → ExprCode t over (instr.For block ∷ rest) is
        → KindCode t (st.For to over body) rest is
    give : {value : Option Expr} {rest is : List Instr}
        → BoundCode t value (instr.Return ∷ rest) is
        → KindCode t (st.Return value) rest is
    break : {rest : List Instr} → KindCode t st.Break rest (instr.Break ∷ rest)
    continue : {rest : List Instr} → KindCode t st.Continue rest (instr.Continue ∷ rest)
    pass : {rest : List Instr} → KindCode t st.Pass rest rest
    load : {rest : List Instr} (index : ℕ) → KindCode t (st.Load index) rest rest
    assign : {to : Target} {value : Expr} {rest mid is : List Instr}
        → TargetCode t to rest mid
        → ExprCode t value mid is
        → KindCode t (st.Assign to value) rest is
    augment : {to : Expr} {op : BinOp} {value : Expr} {rest is : List Instr}
        → AugmentCode t op value to rest is
        → KindCode t (st.Augment to op value) rest is
    value : {of : Expr} {rest is : List Instr}
        → ExprCode t of (instr.Forget ∷ rest) is
        → KindCode t (st.Value of) rest is

  pub data StmtCode (t : Tables) : Stmt → (rest is : List Instr) → Type 0 where
    begin : {line : ℕ} {kind : StmtKind} {rest is : List Instr}
        → KindCode t kind rest is
        → StmtCode t (roll-Stmt (record { line = line; kind = kind })) rest (instr.Begin line ∷ is)

  pub data StmtsCode (t : Tables) : List Stmt → (rest is : List Instr) → Type 0 where
    none : {rest : List Instr} → StmtsCode t [] rest rest
    some : {first : Stmt} {more : List Stmt} {rest mid is : List Instr}
        → StmtsCode t more rest mid
        → StmtCode t first mid is
        → StmtsCode t (first ∷ more) rest is

-- the block of a function's body; a lambda's gives its value back
pub data BodyCode (t : Tables) : FnBody → List Instr → Type 0 where
  block : {stmts : List Stmt} {code : List Instr}
      → StmtsCode t stmts [] code
      → BodyCode t (body.Block stmts) code
  value : {of : Expr} {code : List Instr}
      → ExprCode t of (instr.Return ∷ []) code
      → BodyCode t (body.Value of) code

-- the same tables where the functions from one on may be made
abbrev pub from_function : ℕ → Tables → Tables
from_function least t = record t { least = least }

-- The code of a function with a number: its defaults make none but those behind it, its body any.
pub record FnCoded (t : Tables) (function : ℕ) (tree : FnCode) (entry : FnEntry) : Type 0 where
  pub name : entry.name ≡ printed_name tree.name
  pub params : entry.params ≡ map formal_of tree.params
  pub optional : entry.optional ≡ length (defaults_of tree.params)
  pub defaults : List Instr
  pub defaults_there : BlockAt t entry.defaults defaults
  pub on_defaults : ExprsCode (from_function (suc function) t) (defaults_of tree.params) [] defaults
  pub block : List Instr
  pub there : BlockAt t entry.block block
  pub body : BodyCode (from_function 0 t) tree.body block

abbrev pub BothCoded : Tables → ℕ → Option FnCode → Option FnEntry → Type 0
BothCoded t function None None = Unit {0}
BothCoded t function None (Some entry) = ⊥
BothCoded t function (Some tree) None = ⊥
BothCoded t function (Some tree) (Some entry) = FnCoded t function tree entry

abbrev pub tables_of : Code → List Entry → Tables
tables_of code literals =
    record {
      blocks = code.blocks;
      names = code.names;
      shapes = code.shapes;
      literals = literals;
      least = 0;
    }

-- the code of a file, over the cells of the texts that it spells
pub record FileCoded (program : Program) (code : Code) : Type 0 where
  pub functions : (index : ℕ)
      → BothCoded (tables_of code program.literals) index
      (slice_get program.tree.functions index) (slice_get code.functions index)
  pub block : List Instr
  pub there : BlockAt (tables_of code program.literals) code.top block
  pub body : StmtsCode (tables_of code program.literals) program.tree.body [] block

abbrev pub PairCoded : Option Program → Option Code → Type 0
PairCoded None None = Unit {0}
PairCoded None (Some code) = ⊥
PairCoded (Some program) None = ⊥
PairCoded (Some program) (Some code) = FileCoded program code

-- each file has its code under its number
pub record FilesCoded (programs : List Program) (codes : List Code) : Type 0 where
  pub each : (number : ℕ) → PairCoded (slice_get programs number) (slice_get codes number)
