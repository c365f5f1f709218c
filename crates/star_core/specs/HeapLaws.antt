-- Which calls keep a heap good.
use Rattle.std.specs.Prelude.{◌≡◌, ℕ, List, Some, slice_get}
use Rattle.star_core.specs.Conditions.{IsCellOf, IsHeapOf, Surroundings}
use Rattle.star_core.specs.Heaps.{HeapState, held_at}
use Rattle.star_core.specs.Hosts.{IsValueOf}
use Rattle.star_core.specs.declared.cells.Cell.{Cell}
use Rattle.star_core.specs.declared.cells.Cell.TheVariants as cell
use Rattle.star_core.specs.declared.heap.HeapCell.{HeapCell}
use Rattle.star_core.specs.declared.values.Val.{Val}
use Rattle.star_core.specs.Dicts.{Entry}

-- what a cell may become: a list another list and a dictionary another dictionary, and else itself
pub data Becomes : Cell → Cell → Type 0 where
  stays : {one : Cell} → Becomes one one
  list : {items others : List Val} → Becomes (cell.List items) (cell.List others)
  dictionary : {entries others : List Entry} → Becomes (cell.Dict entries) (cell.Dict others)

-- a cell with this number, that the earlier one may become
pub record IsLater (now : HeapState) (number : ℕ) (earlier : Cell) : Type 0 where
  pub later : HeapCell
  pub stands : slice_get now.cells number ≡ Some later
  pub becomes : Becomes earlier later.cell

-- the second heap has each cell of the first, or what that may become
pub record Extends (before now : HeapState) : Type 0 where
  pub each : (number : ℕ) (held : HeapCell)
      → slice_get before.cells number ≡ Some held
      → IsLater now number held.cell

-- a good heap, and a good value of it
pub record HasValue (round : Surroundings) (heap : HeapState) (value : Val) : Type 0 where
  pub heap_stands : IsHeapOf round heap
  pub value_stands : IsValueOf heap value

-- a good heap, and a good content for it
pub record HasContent (round : Surroundings) (heap : HeapState) (content : Cell) : Type 0 where
  pub heap_stands : IsHeapOf round heap
  pub content_stands : IsCellOf round heap content

-- a content is of the kind of the cell into which it is put
abbrev pub FitsAt : HeapState → Val → Cell → Type 0
FitsAt heap value content =
    (held : HeapCell) → held_at heap value ≡ Some held → Becomes held.cell content
