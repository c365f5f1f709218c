-- What statements mean: the Starlark specification, "Statements". A statement costs a step when it
-- begins, and each turn of a loop one, before its variables are bound.
use Rattle.std.specs.Prelude.{List, [], ◌∷◌, map, cond, Option, Some, None}
use Rattle.std.specs.Prelude.{option_map}
use Rattle.star_core.specs.Heaps.{Change, HeapState, cell_at}
use Rattle.star_core.specs.declared.cells.Cell.{Cell}
use Rattle.star_core.specs.declared.cells.Cell.TheVariants as cell
use Rattle.star_core.specs.declared.values.Val.{Val}
use Rattle.star_library.specs.Calls.{and_then, give_back}
use Rattle.star_meaning.specs.Expressions.{Setting, bound_meaning, in_setting, meaning}
use Rattle.star_meaning.specs.Expressions.{target_meaning}
use Rattle.star_meaning.specs.Libraries.{Rows}
use Rattle.star_meaning.specs.Loops.{Flow, Left, Next, go_on, loop, then_next}
use Rattle.star_meaning.specs.Results.{M, ◌>>=◌, change_to, lift, pure}
use Rattle.star_meaning.specs.Worlds.{assigned, begin_at, on_heap, truth}
use Rattle.star_meaning.specs.declared.reasons.Exit.TheVariants as exit
use Rattle.star_meaning.specs.declared.reasons.InPlace.{InPlace}
use Rattle.star_meaning.specs.declared.reasons.InPlace.TheVariants as way
use Rattle.star_trees.specs.Folds.{StmtValues, fold_stmt}
use Rattle.star_trees.specs.declared.trees.BinOp.{BinOp}
use Rattle.star_trees.specs.declared.trees.BinOp.TheVariants as op
use Rattle.star_trees.specs.declared.trees.Stmt.{Stmt}
use Rattle.star_trees.specs.declared.trees.StmtKind.TheOpen.{Stmt-F, StmtKind-F}

abbrev pub StmtMeaning : Type 0 → Type 0
StmtMeaning H = Setting H → M H Flow

-- statements one after another
abbrev pub in_turn : {H : Type 0} → List (M H Flow) → M H Flow
in_turn [] = pure Next
in_turn (first ∷ more) = do
  flow ← first
  go_on flow (in_turn more)

-- `+=` extends a list, and `|=` updates a dictionary
unfoldable pub in_place : BinOp → Option Cell → InPlace
in_place op.Add (Some (cell.List items)) = way.Extends
in_place op.BitOr (Some (cell.Dict entries)) = way.Merges
in_place op held = way.Elsewhere

abbrev pub changed_in_place : Rows → InPlace → BinOp → Val → Val → HeapState → Change (Option Val)
changed_in_place library way.Extends op old by = and_then (library.extend old by) (λ _. give_back None)
changed_in_place library way.Merges op old by = and_then (library.merge old by) (λ _. give_back None)
changed_in_place library way.Elsewhere op old by =
    and_then (library.binary op old by) (λ new. give_back (Some new))

-- what an augmented assignment puts in the place of a value; nothing where that is changed itself
unfoldable pub augmented : Rows → BinOp → Val → Val → HeapState → Change (Option Val)
augmented library op old by heap =
    changed_in_place library (in_place op (cell_at heap old)) op old by heap

-- the meaning of what a statement says by those of its parts
abbrev pub kind_step : {H : Type 0} → StmtKind-F (StmtMeaning H) (StmtMeaning H) → StmtMeaning H
kind_step (StmtKind-F.Def function to) s = do
  value ← s.make function
  then_next (change_to (assigned to.scope to.slot value))
kind_step (StmtKind-F.If test chosen other) s = do
  value ← (meaning test).value s
  counts ← lift (truth value)
  cond counts (in_turn (map (in_setting s) chosen)) (in_turn (map (in_setting s) other))
kind_step (StmtKind-F.For to over body) s = do
  value ← (meaning over).value s
  loop value (target_meaning to s) (in_turn (map (in_setting s) body))
kind_step (StmtKind-F.Return value) s = do
  value ← bound_meaning (option_map meaning value) s
  pure (Left (exit.Return value))
kind_step StmtKind-F.Break s = pure (Left exit.Break)
kind_step StmtKind-F.Continue s = pure (Left exit.Continue)
kind_step StmtKind-F.Pass s = pure Next
kind_step (StmtKind-F.Load index) s = pure Next
kind_step (StmtKind-F.Assign to value) s = do
  value ← (meaning value).value s
  then_next (target_meaning to s value)
kind_step (StmtKind-F.Augment to op value) s =
    then_next ((meaning to).augment s (λ old. do
      by ← (meaning value).value s
      lift (on_heap (augmented s.library op old by))))
kind_step (StmtKind-F.Value value) s = then_next ((meaning value).value s)

-- a statement is a step, where it begins
abbrev pub stmt_step : {H : Type 0} → Stmt-F (StmtMeaning H) (StmtMeaning H) → StmtMeaning H
stmt_step stmt s = do
  _ ← lift (begin_at (Some (record { file = s.file; line = stmt.line })))
  stmt.kind s

abbrev pub stmt_meanings : {H : Type 0} → StmtValues (StmtMeaning H) (StmtMeaning H)
stmt_meanings = record { kind = kind_step; stmt = stmt_step }

-- what a statement means
abbrev pub stmt_meaning : {H : Type 0} → Stmt → StmtMeaning H
stmt_meaning {H} = fold_stmt (stmt_meanings {H = H})

-- what statements mean, one after another
abbrev pub body_meaning : {H : Type 0} → List Stmt → StmtMeaning H
body_meaning stmts s = in_turn (map (in_setting s) (map stmt_meaning stmts))
