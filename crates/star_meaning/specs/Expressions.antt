-- What expressions mean, construct by construct: the Starlark specification, "Expressions". A node
-- costs a step when it begins; its operands are evaluated from left to right.
use Rattle.std.specs.Prelude.{ℕ, zero, suc, nat_lt, Bool, length, true, false, List, [], ◌∷◌}
use Rattle.std.specs.Prelude.{◌++◌, map, cond, Option, Some, None, option_map, Ok, Err}
use Rattle.std.specs.Prelude.{if◌then◌else◌, slice_get}
use Rattle.star_core.specs.Conditions.{printed_name}
use Rattle.star_core.specs.Dicts.{Entry, entry_of}
use Rattle.star_core.specs.Heaps.{Change, HeapState, given, made, sum_for, taken}
use Rattle.star_core.specs.Hosts.{Field, HostCall, Meaning}
use Rattle.star_core.specs.Tables.{Table}
use Rattle.star_core.specs.declared.cells.Cell.{Cell}
use Rattle.star_core.specs.declared.cells.Cell.TheVariants as cell
use Rattle.star_core.specs.declared.faults.Fault.TheVariants as fault
use Rattle.star_core.specs.declared.values.Args.{Args}
use Rattle.star_core.specs.declared.values.Val.{Val}
use Rattle.star_core.specs.declared.values.Val.TheVariants as val
use Rattle.star_library.specs.Calls.{and_then}
use Rattle.star_library.specs.Kinds.{items_of}
use Rattle.star_meaning.specs.Arguments.{checked, gathered, keywords_of}
use Rattle.star_meaning.specs.Attributes.{attribute_of}
use Rattle.star_meaning.specs.Libraries.{Rows}
use Rattle.star_meaning.specs.Loops.{clause_loop}
use Rattle.star_meaning.specs.Parameters.{defaults_of}
use Rattle.star_meaning.specs.Results.{Gives, M, Res, Stops, ◌>>=◌, asked, change_to, each, fail, lift}
use Rattle.star_meaning.specs.Results.{pure}
use Rattle.star_meaning.specs.Worlds.{Work, World, assigned, on_heap, of_result, opened, tick, truth}
use Rattle.star_meaning.specs.Worlds.{unpacked, variable}
use Rattle.star_meaning.specs.declared.reasons.Attribute.{Attribute}
use Rattle.star_meaning.specs.declared.reasons.Attribute.TheVariants as attribute
use Rattle.star_meaning.specs.declared.arguments.Way.{Way}
use Rattle.star_meaning.specs.declared.arguments.Way.TheVariants as way
use Rattle.star_trees.specs.Folds.{ExprValues, fold_expr, fold_target}
use Rattle.star_trees.specs.declared.files.File.{File}
use Rattle.star_trees.specs.declared.files.FnCode.{FnCode}
use Rattle.star_trees.specs.declared.trees.Arg.TheOpen.{Arg-F, Clause-F, Expr-F, ExprPair-F}
use Rattle.star_trees.specs.declared.trees.Arg.TheOpen.{Target-F}
use Rattle.star_trees.specs.declared.trees.BinOp.{BinOp}
use Rattle.star_trees.specs.declared.trees.BinOp.TheVariants as op
use Rattle.star_trees.specs.declared.trees.Expr.{Expr}
use Rattle.star_trees.specs.declared.trees.Target.{Target}
use Rattle.star_trees.specs.declared.trees.Var.{Var}

-- A file that an evaluation may run: its tree, and the cells of the texts that it spells, which
-- were made before it is run.
pub record Program : Type 0 where
  pub tree : File
  pub literals : List Entry

-- what stands round an expression: the host, the answers, the library, the number of the file and
-- the file, what a call of a value does, and what making one of the file's functions does
pub record Setting (H : Type 0) : Type 0 where
  pub does : Meaning H HostCall
  pub answers : Table
  pub library : Rows
  pub file : ℕ
  pub program : Program
  pub call : Val → Args → M H Val
  pub make : ℕ → M H Val

-- An expression has a value. As the place of an augmented assignment it is read, and what is made
-- of its value takes its place, unless that was changed where it lies.
pub record ExprMeaning (H : Type 0) : Type 0 where
  pub value : Setting H → M H Val
  pub augment : Setting H → (Val → M H (Option Val)) → M H (Unit {0})

-- a value is assigned to a target
abbrev pub TargetMeaning : Type 0 → Type 0
TargetMeaning H = Setting H → Val → M H (Unit {0})

-- an entry of a dictionary's display is put into a dictionary
abbrev pub PairMeaning : Type 0 → Type 0
PairMeaning H = Setting H → Val → M H (Unit {0})

-- an argument has a value, and a way in which it is given
pub record ArgMeaning (H : Type 0) : Type 0 where
  pub way : Way
  pub value : Setting H → M H Val

-- a comprehension's clause: a loop over an operand's items, or a test
pub data ClauseMeaning (H : Type 0) : Type 0 where
  Each : TargetMeaning H → (Setting H → M H Val) → ClauseMeaning H
  Where : (Setting H → M H Val) → ClauseMeaning H

abbrev pub in_setting : {H A : Type 0} → Setting H → (Setting H → M H A) → M H A
in_setting s meaning = meaning s

-- an expression that no augmented assignment may be to
abbrev pub only_value : {H : Type 0} → (Setting H → M H Val) → ExprMeaning H
only_value value = record { value = value; augment = λ s change. fail fault.Kind }

-- a node begins
abbrev pub node : {H A : Type 0} → M H A → M H A
node rest = do
  _ ← lift tick
  rest

-- the cell of a text that the file spells
abbrev pub literal : Option Val → World → Work Val
literal (Some value) world = of_result (Ok value) world
literal None world = of_result (Err fault.Kind) world

abbrev pub literal_of : List Entry → List ℕ → Option Val
literal_of literals text = option_map (λ pair. pair.value) (entry_of text literals)

abbrev pub assign_some : {H : Type 0} → (Val → M H (Unit {0})) → Option Val → M H (Unit {0})
assign_some assign (Some value) = assign value
assign_some assign None = pure tt

abbrev pub name_meaning : {H : Type 0} → Var → ExprMeaning H
name_meaning var =
    record {
      value = λ s. node (lift (variable var.scope var.slot));
      augment = λ s change. do
        old ← node (lift (variable var.scope var.slot))
        new ← change old
        assign_some (λ value. change_to (assigned var.scope var.slot value)) new;
    }

-- an element of a container, found by an index or a key
abbrev pub index_meaning : {H : Type 0} → ExprMeaning H → ExprMeaning H → ExprMeaning H
index_meaning container at =
    record {
      value = λ s. node (do
        of ← container.value s
        place ← at.value s
        lift (on_heap (s.library.index of place)));
      augment = λ s change. node (do
        of ← container.value s
        place ← at.value s
        old ← lift (on_heap (s.library.index of place))
        new ← change old
        assign_some (λ value. lift (on_heap (s.library.set_index of place value))) new);
    }

-- an operator that may leave its right operand alone does so unless the left one counts as this
unfoldable pub goes_right_on : BinOp → Option Bool
goes_right_on op.And = Some true
goes_right_on op.Or = Some false
goes_right_on op.Eq = None
goes_right_on op.Ne = None
goes_right_on op.Lt = None
goes_right_on op.Gt = None
goes_right_on op.Le = None
goes_right_on op.Ge = None
goes_right_on op.Within = None
goes_right_on op.NotWithin = None
goes_right_on op.BitOr = None
goes_right_on op.BitXor = None
goes_right_on op.BitAnd = None
goes_right_on op.Shl = None
goes_right_on op.Shr = None
goes_right_on op.Add = None
goes_right_on op.Sub = None
goes_right_on op.Mul = None
goes_right_on op.Div = None
goes_right_on op.Mod = None

abbrev pub same_bool : Bool → Bool → Bool
same_bool true other = other
same_bool false other = if other then false else true

abbrev pub binary_meaning : {H : Type 0}
    → Option Bool
    → BinOp
    → ExprMeaning H
    → ExprMeaning H
    → Setting H
    → M H Val
binary_meaning (Some wanted) op left right s = do
  x ← left.value s
  counts ← lift (truth x)
  cond (same_bool wanted counts) (right.value s) (pure x)
binary_meaning None op left right s = do
  x ← left.value s
  y ← right.value s
  lift (on_heap (s.library.binary op x y))

-- a bound of a slice; one that isn't written is None and costs no step
abbrev pub bound_meaning : {H : Type 0} → Option (ExprMeaning H) → Setting H → M H Val
bound_meaning None s = pure val.None
bound_meaning (Some bound) s = bound.value s

-- whether a key is there, as `in` says
abbrev pub is_there : Val → Bool
is_there (val.Bool there) = there
is_there val.None = false
is_there (val.Int number) = false
is_there (val.Cell number) = false

abbrev pub put_new : Rows → Val → Val → Val → Bool → HeapState → Change (Unit {0})
put_new library dict key value there heap =
    if there then Err fault.Value else library.set_index dict key value heap

-- an entry of a dictionary's display: its key may not be there yet
unfoldable pub entry_displayed : Rows → Val → Val → Val → HeapState → Change (Unit {0})
entry_displayed library dict key value =
    and_then (library.binary op.Within key dict)
    (λ there. put_new library dict key value (is_there there))

-- entries one after another are put into a dictionary
abbrev pub put_each : {H : Type 0} → List (Val → M H (Unit {0})) → Val → M H (Unit {0})
put_each [] dict = pure tt
put_each (first ∷ more) dict = do
  _ ← first dict
  put_each more dict

-- a function of a file that lies in the scope in which code runs, with the values of its defaults
abbrev pub closure : ℕ → ℕ → List ℕ → List Val → World → Work Val
closure file function name defaults world =
    on_heap (made (cell.Function (record {
      file = file;
      function = function;
      name = name;
      defaults = defaults;
      around = world.scope;
    }))) world

-- an iterable operand, and a dictionary whose keys are strings, before they are spread
abbrev pub items_checked : Val → World → Work (Unit {0})
items_checked value world = of_result (checked (items_of world.heap value)) world

abbrev pub keywords_checked : Val → World → Work (Unit {0})
keywords_checked value world = of_result (checked (keywords_of world.heap value)) world

-- the arguments of a call
abbrev pub args_in : List Way → List Val → World → Work Args
args_in ways values world = of_result (gathered world.heap ways values) world

-- an item is put behind those of a list
abbrev pub put_answered : Option ℕ → HeapState → Change (Unit {0})
put_answered None heap = Err fault.Size
put_answered (Some sum) heap = Ok (tt, heap)

abbrev pub content_put : Val → Cell → ℕ → HeapState → Change (Unit {0})
content_put value content added heap =
    put_answered (sum_for content added heap) (given value content added heap)

abbrev pub item_put : Val → Val → Cell → HeapState → Change (Unit {0})
item_put list item (cell.List items) = content_put list (cell.List (items ++ item ∷ [])) 16
item_put list item content = λ heap. Err fault.Kind

unfoldable pub appended : Val → Val → HeapState → Change (Unit {0})
appended list item = and_then (taken list) (item_put list item)

-- what a comprehension does inside its clauses
abbrev pub nested : {H : Type 0}
    → Setting H
    → List (ClauseMeaning H)
    → M H (Unit {0})
    → M H (Unit {0})
nested s [] inner = inner
nested s (Each to over ∷ clauses) inner = do
  value ← over s
  clause_loop value (to s) (nested s clauses inner)
nested s (Where test ∷ clauses) inner = do
  value ← test s
  counts ← lift (truth value)
  cond counts (nested s clauses inner) (pure tt)

abbrev pub scope_left : {H : Type 0} → ℕ → Res H (Unit {0}) → Res H (Unit {0})
scope_left scope (Gives done world host) = Gives done (record world { scope = scope }) host
scope_left scope (Stops outcome) = Stops outcome

-- in a scope of its own, behind which the one round it is there again
abbrev pub in_new_scope : {H : Type 0} → M H (Unit {0}) → M H (Unit {0})
in_new_scope work = λ world host. scope_left world.scope (work (opened world.scope [] world) host)

-- a comprehension: the operand of its first clause lies outside its scope
abbrev pub comprehension : {H : Type 0}
    → Setting H
    → List (ClauseMeaning H)
    → M H (Unit {0})
    → M H (Unit {0})
comprehension s [] inner = fail fault.Kind
comprehension s (Where test ∷ clauses) inner = fail fault.Kind
comprehension s (Each to over ∷ clauses) inner = do
  value ← over s
  in_new_scope (clause_loop value (to s) (nested s clauses inner))

-- an attribute, where it was found
abbrev pub attribute_read : {H : Type 0} → Attribute → Val → List ℕ → Setting H → M H Val
attribute_read (attribute.Hosted object) value name s = asked s.does s.answers (Field object name)
attribute_read (attribute.Lies held) value name s = pure held
attribute_read attribute.IsMethod value name s = lift (on_heap (made (cell.Bound value name)))
attribute_read attribute.Missing value name s = fail fault.Attr

abbrev pub attribute_meaning : {H : Type 0} → Val → List ℕ → Setting H → M H Val
attribute_meaning value name s =
    λ world host. attribute_read (attribute_of world.heap value name) value name s world host

-- the meaning of an expression by those of its parts
abbrev pub expr_step : {H : Type 0}
    → Expr-F (ArgMeaning H) (ClauseMeaning H) (ExprMeaning H) (TargetMeaning H) (PairMeaning H)
    → ExprMeaning H
expr_step (Expr-F.Expr::Name var) = name_meaning var
expr_step (Expr-F.Int number) = only_value (λ s. node (pure (val.Int number)))
expr_step (Expr-F.Text text) =
    only_value (λ s. node (lift (literal (literal_of s.program.literals text))))
expr_step (Expr-F.List items) = only_value (λ s. node (do
  values ← each (map (λ item. item.value s) items)
  lift (on_heap (made (cell.List values)))))
expr_step (Expr-F.Tuple items) = only_value (λ s. node (do
  values ← each (map (λ item. item.value s) items)
  lift (on_heap (made (cell.Tuple values)))))
expr_step (Expr-F.Dict pairs) = only_value (λ s. node (do
  dict ← lift (on_heap (made (cell.Dict [])))
  _ ← put_each (map (λ pair. pair s) pairs) dict
  pure dict))
expr_step (Expr-F.ListComp item clauses) = only_value (λ s. node (do
  list ← lift (on_heap (made (cell.List [])))
  _ ← comprehension s clauses (do
    x ← item.value s
    lift (on_heap (appended list x)))
  pure list))
expr_step (Expr-F.DictComp key value clauses) = only_value (λ s. node (do
  dict ← lift (on_heap (made (cell.Dict [])))
  _ ← comprehension s clauses (do
    k ← key.value s
    x ← value.value s
    lift (on_heap (s.library.set_index dict k x)))
  pure dict))
expr_step (Expr-F.Unary op of) = only_value (λ s. node (do
  x ← of.value s
  lift (on_heap (s.library.unary op x))))
expr_step (Expr-F.Binary op left right) =
    only_value (λ s. node (binary_meaning (goes_right_on op) op left right s))
expr_step (Expr-F.Cond test chosen other) = only_value (λ s. node (do
  x ← test.value s
  counts ← lift (truth x)
  cond counts (chosen.value s) (other.value s)))
expr_step (Expr-F.Lambda function) = only_value (λ s. node (s.make function))
expr_step (Expr-F.Attr of name) = only_value (λ s. node (do
  x ← of.value s
  attribute_meaning x name s))
expr_step (Expr-F.Expr::Index of at) = index_meaning of at
expr_step (Expr-F.Slice of begin end step) = only_value (λ s. node (do
  x ← of.value s
  first ← bound_meaning begin s
  last ← bound_meaning end s
  by ← bound_meaning step s
  lift (on_heap (s.library.slice x first last by))))
expr_step (Expr-F.Call function args) = only_value (λ s. node (do
  f ← function.value s
  values ← each (map (λ arg. arg.value s) args)
  given ← lift (args_in (map (λ arg. arg.way) args) values)
  s.call f given))

-- an argument; an operand that is spread is tested when it is evaluated
abbrev pub arg_step : {H : Type 0}
    → Arg-F (ArgMeaning H) (ClauseMeaning H) (ExprMeaning H) (TargetMeaning H) (PairMeaning H)
    → ArgMeaning H
arg_step (Arg-F.Positional value) = record { way = way.Positional; value = value.value }
arg_step (Arg-F.Named name value) = record { way = way.Named name; value = value.value }
arg_step (Arg-F.Star value) =
    record {
      way = way.Star;
      value = λ s. do
        x ← value.value s
        _ ← lift (items_checked x)
        pure x;
    }
arg_step (Arg-F.DoubleStar value) =
    record {
      way = way.DoubleStar;
      value = λ s. do
        x ← value.value s
        _ ← lift (keywords_checked x)
        pure x;
    }

abbrev pub pair_step : {H : Type 0}
    → ExprPair-F (ArgMeaning H) (ClauseMeaning H) (ExprMeaning H) (TargetMeaning H) (PairMeaning H)
    → PairMeaning H
pair_step pair s dict = do
  key ← pair.key.value s
  value ← pair.value.value s
  lift (on_heap (entry_displayed s.library dict key value))

-- as many targets as values, from left to right
abbrev pub assign_each : {H : Type 0} → List (Val → M H (Unit {0})) → List Val → M H (Unit {0})
assign_each [] [] = pure tt
assign_each [] (value ∷ values) = fail fault.Value
assign_each (target ∷ targets) [] = fail fault.Value
assign_each (target ∷ targets) (value ∷ values) = do
  _ ← target value
  assign_each targets values

abbrev pub target_step : {H : Type 0}
    → Target-F (ArgMeaning H) (ClauseMeaning H) (ExprMeaning H) (TargetMeaning H) (PairMeaning H)
    → TargetMeaning H
target_step (Target-F.Target::Name var) s value = change_to (assigned var.scope var.slot value)
target_step (Target-F.Target::Index of at) s value = do
  container ← of.value s
  place ← at.value s
  lift (on_heap (s.library.set_index container place value))
target_step (Target-F.Many targets) s value = do
  values ← lift (unpacked value (length targets))
  assign_each (map (λ target. target s) targets) values

abbrev pub clause_step : {H : Type 0}
    → Clause-F (ArgMeaning H) (ClauseMeaning H) (ExprMeaning H) (TargetMeaning H) (PairMeaning H)
    → ClauseMeaning H
clause_step (Clause-F.For to over) = Each to over.value
clause_step (Clause-F.If test) = Where test.value

abbrev pub meanings : {H : Type 0}
    → ExprValues (ArgMeaning H) (ClauseMeaning H) (ExprMeaning H) (TargetMeaning H) (PairMeaning H)
meanings =
    record {
      arg = arg_step;
      clause = clause_step;
      expr = expr_step;
      target = target_step;
      pair = pair_step;
    }

-- what an expression means
abbrev pub meaning : {H : Type 0} → Expr → ExprMeaning H
meaning {H} = fold_expr (meanings {H = H})

-- what assigning to a target means
abbrev pub target_meaning : {H : Type 0} → Target → TargetMeaning H
target_meaning {H} = fold_target (meanings {H = H})

-- a function of the file with the values of its defaults
abbrev pub made_with : {H : Type 0} → ℕ → Option FnCode → Setting H → M H Val
made_with function None s = fail fault.Kind
made_with function (Some code) s = do
  defaults ← each (map (λ default. default.value s) (map meaning (defaults_of code.params)))
  lift (closure s.file function (printed_name code.name) defaults)

-- A `def` or a `lambda` makes a function of the scope in which it stands, with its defaults, which
-- are evaluated then. Functions stand in the order in which they begin in the text, so that those
-- that a function's defaults make stand behind it: that bounds how deep defaults nest in defaults,
-- by the number of functions. A function that stands before is refused.
unfoldable pub functions_made : {H : Type 0} → ℕ → ℕ → Setting H → ℕ → M H Val
functions_made zero least s function = fail fault.Kind
functions_made (suc count) least s function =
    if nat_lt function least then fail fault.Kind
    else made_with function (slice_get s.program.tree.functions function)
    (record s { make = functions_made count (suc function) s })
