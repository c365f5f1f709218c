-- The heap: a list of cells, how many of them are frozen, and the sum of the sizes made so far.
-- The Starlark specification, "Freezing a value" and "Data types".
use Rattle.std.specs.Prelude.{◌≡◌, ℕ, ◌+◌, ◌-◌, ◌==◌, Bool, nat_lt, if◌then◌else◌}
use Rattle.std.specs.Prelude.{List, [], ◌∷◌, ◌++◌, length, slice_get, slice_set, Option, Some, None}
use Rattle.std.specs.Prelude.{option_map, option_and_then, Result, Ok, Err}
use Rattle.bz_base.specs.Counts.{counted}
use Rattle.bz_text.specs.declared.memory.Miss.{Miss}
use Rattle.bz_text.specs.declared.memory.Miss.TheVariants as miss
use Rattle.star_core.specs.Sizes.{is_too_large, most_sizes, size_of}
use Rattle.star_core.specs.declared.cells.Cell.{Cell}
use Rattle.star_core.specs.declared.cells.Cell.TheVariants as cell
use Rattle.star_core.specs.declared.faults.Fault.{Fault}
use Rattle.star_core.specs.declared.faults.Fault.TheVariants as fault
use Rattle.star_core.specs.declared.heap.HeapCell.{HeapCell}
use Rattle.star_core.specs.declared.values.Val.{Val}
use Rattle.star_core.specs.declared.values.Val.TheVariants as val

-- the cells with their open walks, how many of the first of them are frozen, and the sum of sizes
pub record HeapState : Type 0 where
  pub cells : List HeapCell
  pub frozen : ℕ
  pub sum : ℕ

abbrev pub empty_heap : HeapState
empty_heap = record { cells = []; frozen = 0; sum = 0 }

-- what a change of the heap gives, and the heap behind it, or why it is refused
abbrev pub Change : Type 0 → Type 0
Change A = Result (A × HeapState) Fault

-- a call made that change, or was refused for that reason, or memory ran out, where the last two
-- leave the heap as it was
abbrev pub Makes : {A : Type 0} → Change A → Result A (Miss Fault) → (old new : HeapState) → Type 0
Makes (Ok change) (Ok value) old new = (value ≡ change.0) × (new ≡ change.1)
Makes (Ok change) (Err (miss.Because reason)) old new = ⊥
Makes (Err wanted) (Ok value) old new = ⊥
Makes (Err wanted) (Err (miss.Because reason)) old new = (reason ≡ wanted) × (new ≡ old)
Makes change (Err miss.OutOfMemory) old new = new ≡ old

-- the same of a call that needs no memory
abbrev pub Changes : {A : Type 0} → Change A → Result A Fault → (old new : HeapState) → Type 0
Changes (Ok change) (Ok value) old new = (value ≡ change.0) × (new ≡ change.1)
Changes (Ok change) (Err reason) old new = ⊥
Changes (Err wanted) (Ok value) old new = ⊥
Changes (Err wanted) (Err reason) old new = (reason ≡ wanted) × (new ≡ old)

-- the number of the cell that a value names; small values name none
abbrev pub cell_number : Val → Option ℕ
cell_number val.None = None
cell_number (val.Bool flag) = None
cell_number (val.Int number) = None
cell_number (val.Cell number) = Some number

-- the cell of a value, with its open walks
abbrev pub held_at : HeapState → Val → Option HeapCell
held_at heap value = option_and_then (slice_get heap.cells) (cell_number value)

-- the cell of a value
abbrev pub cell_at : HeapState → Val → Option Cell
cell_at heap value = option_map (λ held. held.cell) (held_at heap value)

-- the cell with this number was there when the heap was last frozen
abbrev pub is_frozen : HeapState → ℕ → Bool
is_frozen heap number = nat_lt number heap.frozen

-- the sum of sizes with so many bytes more, where it isn't too large
abbrev pub sum_with : ℕ → HeapState → Option ℕ
sum_with added heap =
    if nat_lt most_sizes (heap.sum + added) then None else Some (heap.sum + added)

-- the same for a cell or a content that is itself not too large
abbrev pub sum_for : Cell → ℕ → HeapState → Option ℕ
sum_for content added heap = if is_too_large content then None else sum_with added heap

-- the heap with one more cell, of which no walk is open, and this sum
abbrev pub with_cell : Cell → ℕ → HeapState → HeapState
with_cell new sum heap =
    record heap { cells = heap.cells ++ record { cell = new; walks = 0 } ∷ []; sum = sum }

-- the value that names the next cell
abbrev pub next_value : HeapState → Val
next_value heap = val.Cell (length heap.cells)

abbrev pub made_with : Cell → Option ℕ → HeapState → Change Val
made_with new None heap = Err fault.Size
made_with new (Some sum) heap = Ok (next_value heap, with_cell new sum heap)

-- a cell is made, unless it or the sum of all sizes becomes too large
abbrev pub made : Cell → HeapState → Change Val
made new heap = made_with new (sum_for new (size_of new) heap) heap

-- A text that a file spells is made once, before the file runs, and costs nothing: a literal in a
-- loop makes no cell.
abbrev pub literal_made : List ℕ → HeapState → Change Val
literal_made text heap = Ok (next_value heap, with_cell (cell.Text text) heap.sum heap)

abbrev pub all_frozen : HeapState → HeapState
all_frozen heap = record heap { frozen = length heap.cells }

abbrev pub restarted : HeapState → HeapState
restarted heap = record heap { sum = 0 }

-- an empty container of the kind of a list or a dictionary; of no other cell
unfoldable pub emptied : Cell → Option Cell
emptied (cell.List items) = Some (cell.List [])
emptied (cell.Dict entries) = Some (cell.Dict [])
emptied (cell.Text text) = None
emptied (cell.Tuple items) = None
emptied (cell.Range first stop step) = None
emptied (cell.Function function) = None
emptied (cell.Builtin name) = None
emptied (cell.Bound receiver method) = None
emptied (cell.Struct fields) = None
emptied (cell.Label label) = None
emptied (cell.Path repo segments) = None
emptied (cell.Host kind fields) = None

-- the heap with another content in the place of a cell
abbrev pub with_content : ℕ → HeapCell → Cell → HeapState → HeapState
with_content number held content heap =
    record heap {
      cells = slice_set heap.cells number (record { cell = content; walks = held.walks });
    }

-- the number of a list or a dictionary and an empty one of its kind, where it isn't frozen and no
-- walk of it is open: frozen comes before iterating
abbrev pub changeable_by : ℕ → Option Cell → Bool → Bool → Result (ℕ × Cell) Fault
changeable_by number None frozen at_rest = Err fault.Kind
changeable_by number (Some empty) frozen at_rest =
    if frozen then Err fault.Frozen
    else (if at_rest then Ok (number, empty) else Err fault.Iterating)

abbrev pub cell_changeable : ℕ → Option HeapCell → HeapState → Result (ℕ × Cell) Fault
cell_changeable number None heap = Err fault.Kind
cell_changeable number (Some held) heap =
    changeable_by number (emptied held.cell) (is_frozen heap number) (held.walks == 0)

abbrev pub number_changeable : Option ℕ → HeapState → Result (ℕ × Cell) Fault
number_changeable None heap = Err fault.Kind
number_changeable (Some number) heap = cell_changeable number (slice_get heap.cells number) heap

abbrev pub changeable : Val → HeapState → Result (ℕ × Cell) Fault
changeable value heap = number_changeable (cell_number value) heap

-- a cell's content, and the heap with another in its place
abbrev pub content_swapped : ℕ → Option HeapCell → Cell → HeapState → Change Cell
content_swapped number None content heap = Err fault.Kind
content_swapped number (Some held) content heap =
    Ok (held.cell, with_content number held content heap)

abbrev pub swapped : ℕ → Cell → HeapState → Change Cell
swapped number content heap =
    content_swapped number (slice_get heap.cells number) content heap

abbrev pub taken_by : Result (ℕ × Cell) Fault → HeapState → Change Cell
taken_by (Ok (number, empty)) heap = swapped number empty heap
taken_by (Err reason) heap = Err reason

-- the content of a list or a dictionary that may be changed, and the heap in which it is empty
abbrev pub taken : Val → HeapState → Change Cell
taken value heap = taken_by (changeable value heap) heap

abbrev pub put_back : ℕ → Option HeapCell → Cell → HeapState → HeapState
put_back number None content heap = heap
put_back number (Some held) content heap = with_content number held content heap

abbrev pub number_put_back : Option ℕ → Cell → HeapState → HeapState
number_put_back None content heap = heap
number_put_back (Some number) content heap =
    put_back number (slice_get heap.cells number) content heap

-- a heap with this sum, where it is one
abbrev pub with_sum : Option ℕ → HeapState → HeapState
with_sum None heap = heap
with_sum (Some sum) heap = record heap { sum = sum }

-- the heap once a content is put back: it stands also where it is refused, and then adds nothing
abbrev pub given : Val → Cell → ℕ → HeapState → HeapState
given value content added heap =
    with_sum (sum_for content added heap) (number_put_back (cell_number value) content heap)

-- what putting a content back answers
abbrev pub given_answer : Option ℕ → Result (Unit {0}) Fault
given_answer None = Err fault.Size
given_answer (Some sum) = Ok tt

-- a count of walks that ends or begins on a cell
abbrev pub with_walks : ℕ → Option HeapCell → (ℕ → ℕ) → HeapState → HeapState
with_walks number None change heap = heap
with_walks number (Some held) change heap =
    record heap {
      cells = slice_set heap.cells number
          (record { cell = held.cell; walks = change held.walks });
    }

abbrev pub number_with_walks : Option ℕ → (ℕ → ℕ) → HeapState → HeapState
number_with_walks None change heap = heap
number_with_walks (Some number) change heap =
    with_walks number (slice_get heap.cells number) change heap

-- a walk of a value's cell begins, and one ends
abbrev pub walked : Val → HeapState → HeapState
walked value heap = number_with_walks (cell_number value) counted heap

abbrev pub unwalked : Val → HeapState → HeapState
unwalked value heap = number_with_walks (cell_number value) (λ walks. walks - 1) heap
