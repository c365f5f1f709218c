-- The operators of the language and the calls of its library as a table: what each makes of its
-- operands and the heap. The Starlark specification, "Expressions", "Augmented assignments" and
-- "Built-in constants and functions".
use Rattle.std.specs.Prelude.{Bool}
use Rattle.star_core.specs.Heaps.{Change, HeapState}
use Rattle.star_core.specs.declared.values.Args.{Args}
use Rattle.star_core.specs.declared.values.Val.{Val}
use Rattle.star_trees.specs.declared.trees.BinOp.{BinOp}
use Rattle.star_trees.specs.declared.trees.UnOp.{UnOp}

-- what a library does: unary and binary operators, an element by its index or key, a slice between
-- bounds, an element put in the place of another, a list extended by an iterable, a dictionary
-- updated by another, a call of one of its functions or methods, and whether such a call calls back
-- or asks the host, which only an evaluation can do
pub record Rows : Type 0 where
  pub unary : UnOp → Val → HeapState → Change Val
  pub binary : BinOp → Val → Val → HeapState → Change Val
  pub index : (of at : Val) → HeapState → Change Val
  pub slice : (of first last by : Val) → HeapState → Change Val
  pub set_index : (of at new : Val) → HeapState → Change (Unit {0})
  pub extend : (list by : Val) → HeapState → Change (Unit {0})
  pub merge : (dict by : Val) → HeapState → Change (Unit {0})
  pub call : (f : Val) → Args → HeapState → Change Val
  pub calls_back : (f : Val) → Args → HeapState → Bool
