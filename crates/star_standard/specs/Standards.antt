-- The operators of the language and the calls of its library, as a table. The Starlark
-- specification, "Expressions" and "Built-in constants and functions".
use Rattle.std.specs.Prelude.{ℕ, Bool, true, false, if◌then◌else◌, List, Option, Some, None}
use Rattle.star_containers.specs.Changing.{extended, index_set, merged}
use Rattle.star_containers.specs.Slicing.{slice_of}
use Rattle.star_core.specs.Contents.{text_in}
use Rattle.star_core.specs.Heaps.{Change, HeapState, cell_at}
use Rattle.star_core.specs.declared.values.Val.{Val}
use Rattle.star_format.specs.Filling.{percent_row}
use Rattle.star_meaning.specs.Libraries.{Rows}
use Rattle.star_operators.specs.Binary.{binary_of}
use Rattle.star_operators.specs.Indexing.{index_of}
use Rattle.star_operators.specs.Unary.{unary_of}
use Rattle.star_standard.specs.LibraryCalls.{call_row, calls_back_of}
use Rattle.star_trees.specs.declared.trees.BinOp.{BinOp}
use Rattle.star_trees.specs.declared.trees.BinOp.TheVariants as op

-- `%` behind a string fills a pattern
abbrev pub fills : BinOp → Option (List ℕ) → Bool
fills op.Mod (Some text) = true
fills op text = false

-- an operator with two operands
unfoldable pub operated : BinOp → Val → Val → HeapState → Change Val
operated op left right heap =
    if fills op (text_in (cell_at heap left)) then percent_row left right heap
    else binary_of op left right heap

abbrev pub standard_rows : Rows
standard_rows =
    record {
      unary = unary_of;
      binary = operated;
      index = index_of;
      slice = λ of first last by. slice_of of (Some first) (Some last) (Some by);
      set_index = index_set;
      extend = extended;
      merge = merged;
      call = call_row;
      calls_back = calls_back_of;
    }
