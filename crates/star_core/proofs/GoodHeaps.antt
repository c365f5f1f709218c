-- Which changes keep a heap good.
use Rattle.std.proofs.Common.{◌≡◌, ℕ, zero, suc, ◌+◌, ◌≤◌, ◌==◌, Bool, true, false, All, List, []}
use Rattle.std.proofs.Common.{◌∷◌, ◌++◌, length, Option, Some, None, Ok, refl, ap, sym}
use Rattle.std.proofs.Common.{subst, slice_get, slice_set, arith, ◌∙◌, nat_lt, if◌then◌else◌}
use Rattle.std.proofs.lemmas.Bool.Decides.{nat_tests}
use Rattle.std.proofs.lemmas.List.Elements.{All-append, All-cons, All-head, All-nil, All-tail}
use Rattle.std.proofs.lemmas.List.Elements.{All-weaker}
use Rattle.std.proofs.lemmas.List.{length-append}
use Rattle.bz_base.specs.Counts.{counted}
use Rattle.star_core.specs.Conditions.{IsCellOf, IsEntryOf, IsHeapOf, Surroundings}
use Rattle.star_core.specs.HeapLaws.{Becomes, Extends, FitsAt, HasContent, HasValue}
use Rattle.star_core.specs.Heaps.{HeapState, all_frozen, cell_changeable, cell_number}
use Rattle.star_core.specs.Heaps.{changeable_by}
use Rattle.star_core.specs.Heaps.{content_swapped, emptied, given, is_frozen}
use Rattle.star_core.specs.Heaps.{literal_made, made, made_with, next_value, number_put_back}
use Rattle.star_core.specs.Heaps.{number_with_walks, put_back, restarted, sum_for, swapped}
use Rattle.star_core.specs.Heaps.{taken, taken_by, unwalked, walked, with_cell, with_content}
use Rattle.star_core.specs.Heaps.{with_sum, with_walks}
use Rattle.star_core.specs.Hosts.{IsValueOf}
use Rattle.star_core.specs.Sizes.{is_too_large, most_sizes, size_of}
use Rattle.star_core.specs.declared.cells.Cell.{Cell}
use Rattle.star_core.specs.declared.cells.Cell.TheVariants as cell
use Rattle.star_core.specs.declared.heap.HeapCell.{HeapCell}
use Rattle.star_core.specs.declared.values.Val.{Val}
use Rattle.star_core.specs.declared.values.Val.TheVariants as val
use Rattle.star_core.proofs.HeapGrowth.{cell_extends}

-- an item of a list is the same one with others behind it
get-append : {A : Type 0} (items others : List A) (index : ℕ) (item : A)
    → slice_get items index ≡ Some item
    → slice_get (items ++ others) index ≡ Some item
get-append [] others index item is = absurd (cc)
get-append (one ∷ items) others zero item is = is
get-append (one ∷ items) others (suc index) item is = get-append items others index item is

length-set : {A : Type 0} (items : List A) (index : ℕ) (item : A)
    → length (slice_set items index item) ≡ length items
length-set [] index item = refl
length-set (one ∷ items) zero item = refl
length-set (one ∷ items) (suc index) item = ap suc (length-set items index item)

All-set : {A : Type 0} (P : A → Type 0) (items : List A) (index : ℕ) (item : A)
    → All P items
    → P item
    → All P (slice_set items index item)
All-set P [] index item all one = all
All-set P (first ∷ items) zero item all one = All-cons P item items one (All-tail P first items all)
All-set P (first ∷ items) (suc index) item all one =
    All-cons P first (slice_set items index item) (All-head P first items all)
    (All-set P items index item (All-tail P first items all) one)

-- what is set becomes of what stood there, and all else stays
record Later (cells : List HeapCell) (number : ℕ) (earlier : Cell) : Type 0 where
  later : HeapCell
  stands : slice_get cells number ≡ Some later
  becomes : Becomes earlier later.cell

set-later : (cells : List HeapCell) (set_at : ℕ) (held new : HeapCell) (number : ℕ)
    (earlier : HeapCell)
    → slice_get cells set_at ≡ Some held
    → Becomes held.cell new.cell
    → slice_get cells number ≡ Some earlier
    → Later (slice_set cells set_at new) number earlier.cell
set-later [] set_at held new number earlier there becomes is = absurd (cc)
set-later (one ∷ cells) zero held new zero earlier there becomes is =
    let same : held ≡ earlier = cc in
    record {
      later = new;
      stands = refl;
      becomes = subst (λ it. Becomes it.cell new.cell) same becomes;
    }
set-later (one ∷ cells) zero held new (suc number) earlier there becomes is =
    record { later = earlier; stands = is; becomes = Becomes.stays }
set-later (one ∷ cells) (suc set_at) held new zero earlier there becomes is =
    record { later = earlier; stands = is; becomes = Becomes.stays }
set-later (one ∷ cells) (suc set_at) held new (suc number) earlier there becomes is =
    let below = set-later cells set_at held new number earlier there becomes is in
    record { later = below.later; stands = below.stands; becomes = below.becomes }

-- a heap of the same cells
same_extends : (before now : HeapState) → now.cells ≡ before.cells → Extends before now
same_extends before now same = record {
  each = λ number held there. record {
    later = held;
    stands = subst (λ cells. slice_get cells number ≡ Some held) (sym same) there;
    becomes = Becomes.stays;
  };
}

same_good : (round : Surroundings) (before now : HeapState)
    → now.cells ≡ before.cells
    → now.frozen ≤ length now.cells
    → now.sum ≤ most_sizes
    → IsHeapOf round before
    → IsHeapOf round now
same_good round before now same frozen sum good = record {
  cells_stand = subst (λ cells. All (λ held. IsCellOf round now held.cell) cells) (sym same)
      (All-weaker (λ held. IsCellOf round before held.cell)
      (λ held. IsCellOf round now held.cell)
      (λ held is. cell_extends round before now held.cell (same_extends before now same) is)
      before.cells good.cells_stand);
  frozen_stands = frozen;
  sum_stands = sum;
}

pub frozen_good : (round : Surroundings) (heap : HeapState)
    → IsHeapOf round heap
    → IsHeapOf round (all_frozen heap)
frozen_good round heap good =
    same_good round heap (all_frozen heap) refl (omega arith) good.sum_stands good

pub restarted_good : (round : Surroundings) (heap : HeapState)
    → IsHeapOf round heap
    → IsHeapOf round (restarted heap)
restarted_good round heap good =
    same_good round heap (restarted heap) refl good.frozen_stands (omega arith) good

-- one more good cell
added_good : (round : Surroundings) (heap : HeapState) (new : Cell) (sum : ℕ)
    → sum ≤ most_sizes
    → IsHeapOf round heap
    → IsCellOf round heap new
    → HasValue round (with_cell new sum heap) (next_value heap)
added_good round heap new sum within good stands =
    let now : HeapState = with_cell new sum heap in
    let grows : Extends heap now = record {
      each = λ number held there. record {
        later = held;
        stands = get-append heap.cells _ number held there;
        becomes = Becomes.stays;
      };
    } in
    let longer : length now.cells ≡ length heap.cells + 1 = length-append heap.cells _ in
    record {
      heap_stands = record {
        cells_stand = All-append (λ held. IsCellOf round now held.cell) heap.cells _
            (All-weaker (λ held. IsCellOf round heap held.cell)
            (λ held. IsCellOf round now held.cell)
            (λ held is. cell_extends round heap now held.cell grows is)
            heap.cells good.cells_stand)
            (All-cons (λ held. IsCellOf round now held.cell) _ []
            (cell_extends round heap now new grows stands)
            (All-nil (λ held. IsCellOf round now held.cell)));
        frozen_stands = omega (arith, longer, good.frozen_stands);
        sum_stands = within;
      };
      value_stands = omega (arith, longer);
    }

sum_within : (content : Cell) (added : ℕ) (heap : HeapState) (sum : ℕ)
    → sum_for content added heap ≡ Some sum
    → sum ≤ most_sizes
sum_within content added heap sum is =
    by (is_too_large content) (nat_lt most_sizes (heap.sum + added)) refl is
  where
    by : (large over : Bool)
        → nat_lt most_sizes (heap.sum + added) ≡ over
        → (if large then None else (if over then None else Some (heap.sum + added))) ≡ Some sum
        → sum ≤ most_sizes
    by true over test is = absurd (cc)
    by false true test is = absurd (cc)
    by false false test is =
        let same : heap.sum + added ≡ sum = cc in
        subst (λ it. it ≤ most_sizes) same (grind (arith, nat_tests))

made_with_good : (round : Surroundings) (heap : HeapState) (new : Cell) (sum : Option ℕ)
    (change : Val × HeapState)
    → ((one : ℕ) → sum ≡ Some one → one ≤ most_sizes)
    → IsHeapOf round heap
    → IsCellOf round heap new
    → made_with new sum heap ≡ Ok change
    → HasValue round change.1 change.0
made_with_good round heap new None change within good stands is = absurd (cc)
made_with_good round heap new (Some sum) change within good stands is =
    let same : (next_value heap, with_cell new sum heap) ≡ change = cc in
    subst (λ it. HasValue round it.1 it.0) same
    (added_good round heap new sum (within sum refl) good stands)

pub made_good : (round : Surroundings) (heap : HeapState) (new : Cell)
    (change : Val × HeapState)
    → IsHeapOf round heap
    → IsCellOf round heap new
    → made new heap ≡ Ok change
    → HasValue round change.1 change.0
made_good round heap new change good stands is =
    made_with_good round heap new (sum_for new (size_of new) heap) change
    (λ sum there. sum_within new (size_of new) heap sum there) good stands is

pub literal_good : (round : Surroundings) (heap : HeapState) (text : List ℕ)
    (change : Val × HeapState)
    → IsHeapOf round heap
    → literal_made text heap ≡ Ok change
    → HasValue round change.1 change.0
literal_good round heap text change good is =
    let same : (next_value heap, with_cell (cell.Text text) heap.sum heap) ≡ change = cc in
    subst (λ it. HasValue round it.1 it.0) same
    (added_good round heap (cell.Text text) heap.sum good.sum_stands good tt)

-- a cell set to what it may become
set_extends : (heap now : HeapState) (number : ℕ) (held new : HeapCell)
    → now.cells ≡ slice_set heap.cells number new
    → slice_get heap.cells number ≡ Some held
    → Becomes held.cell new.cell
    → Extends heap now
set_extends heap now number held new is there becomes = record {
  each = λ at earlier stood.
      let one = set-later heap.cells number held new at earlier there becomes stood in
      record {
        later = one.later;
        stands = subst (λ cells. slice_get cells at ≡ Some one.later) (sym is) one.stands;
        becomes = one.becomes;
      };
}

set_good : (round : Surroundings) (heap now : HeapState) (number : ℕ) (held new : HeapCell)
    → now.cells ≡ slice_set heap.cells number new
    → now.frozen ≡ heap.frozen
    → now.sum ≤ most_sizes
    → slice_get heap.cells number ≡ Some held
    → Becomes held.cell new.cell
    → IsHeapOf round heap
    → IsCellOf round now new.cell
    → IsHeapOf round now
set_good round heap now number held new is frozen sum there becomes good stands =
    let grows : Extends heap now = set_extends heap now number held new is there becomes in
    let as_long : length now.cells ≡ length heap.cells =
    ap length is ∙ length-set heap.cells number new in
    record {
      cells_stand = subst (λ cells. All (λ one. IsCellOf round now one.cell) cells) (sym is)
          (All-set (λ one. IsCellOf round now one.cell) heap.cells number new
          (All-weaker (λ one. IsCellOf round heap one.cell)
          (λ one. IsCellOf round now one.cell)
          (λ one stood. cell_extends round heap now one.cell grows stood)
          heap.cells good.cells_stand)
          stands);
      frozen_stands = omega (arith, as_long, frozen, good.frozen_stands);
      sum_stands = sum;
    }

cell_of : (round : Surroundings) (heap : HeapState) (cells : List HeapCell) (number : ℕ)
    (held : HeapCell)
    → All (λ one. IsCellOf round heap one.cell) cells
    → slice_get cells number ≡ Some held
    → IsCellOf round heap held.cell
cell_of round heap [] number held all there = absurd (cc)
cell_of round heap (one ∷ cells) zero held all there =
    let same : one ≡ held = cc in
    subst (λ it. IsCellOf round heap it.cell) same
    (All-head (λ it. IsCellOf round heap it.cell) one cells all)
cell_of round heap (one ∷ cells) (suc number) held all there =
    cell_of round heap cells number held
    (All-tail (λ it. IsCellOf round heap it.cell) one cells all)
    there

-- walks
walks_good : (round : Surroundings) (heap : HeapState) (number : ℕ) (held : Option HeapCell)
    (change : ℕ → ℕ)
    → slice_get heap.cells number ≡ held
    → IsHeapOf round heap
    → IsHeapOf round (with_walks number held change heap)
walks_good round heap number None change there good = good
walks_good round heap number (Some held) change there good =
    let now : HeapState = with_walks number (Some held) change heap in
    let new : HeapCell = record { cell = held.cell; walks = change held.walks } in
    set_good round heap now number held new refl refl good.sum_stands there Becomes.stays good
    (cell_extends round heap now held.cell
    (set_extends heap now number held new refl there Becomes.stays)
    (cell_of round heap heap.cells number held good.cells_stand there))

value_walks_good : (round : Surroundings) (heap : HeapState) (number : Option ℕ) (change : ℕ → ℕ)
    → IsHeapOf round heap
    → IsHeapOf round (number_with_walks number change heap)
value_walks_good round heap None change good = good
value_walks_good round heap (Some number) change good =
    walks_good round heap number (slice_get heap.cells number) change refl good

pub walked_good : (round : Surroundings) (heap : HeapState) (value : Val)
    → IsHeapOf round heap
    → IsHeapOf round (walked value heap)
walked_good round heap value good = value_walks_good round heap _ counted good

pub unwalked_good : (round : Surroundings) (heap : HeapState) (value : Val)
    → IsHeapOf round heap
    → IsHeapOf round (unwalked value heap)
unwalked_good round heap value good = value_walks_good round heap _ _ good

-- what an empty container is made of
becomes_empty : (one empty : Cell) → emptied one ≡ Some empty → Becomes one empty
unfolding emptied
becomes_empty (cell.List items) empty is =
    let same : cell.List [] ≡ empty = cc in subst (Becomes (cell.List items)) same Becomes.list
becomes_empty (cell.Dict entries) empty is =
    let same : cell.Dict [] ≡ empty = cc in
    subst (Becomes (cell.Dict entries)) same Becomes.dictionary
becomes_empty (cell.Text text) empty is = absurd (cc)
becomes_empty (cell.Tuple items) empty is = absurd (cc)
becomes_empty (cell.Range first stop step) empty is = absurd (cc)
becomes_empty (cell.Function function) empty is = absurd (cc)
becomes_empty (cell.Builtin name) empty is = absurd (cc)
becomes_empty (cell.Bound receiver method) empty is = absurd (cc)
becomes_empty (cell.Struct fields) empty is = absurd (cc)
becomes_empty (cell.Label label) empty is = absurd (cc)
becomes_empty (cell.Path repo segments) empty is = absurd (cc)
becomes_empty (cell.Host kind fields) empty is = absurd (cc)

empty_good : (round : Surroundings) (heap : HeapState) (one empty : Cell)
    → emptied one ≡ Some empty
    → IsCellOf round heap empty
unfolding emptied
empty_good round heap (cell.List items) empty is =
    let same : cell.List [] ≡ empty = cc in
    subst (IsCellOf round heap) same (All-nil (IsValueOf heap))
empty_good round heap (cell.Dict entries) empty is =
    let same : cell.Dict [] ≡ empty = cc in
    subst (IsCellOf round heap) same
    (record {
      each = All-nil (IsEntryOf heap);
      differ = λ i j d less below. absurd (omega (arith, below));
    })
empty_good round heap (cell.Text text) empty is = absurd (cc)
empty_good round heap (cell.Tuple items) empty is = absurd (cc)
empty_good round heap (cell.Range first stop step) empty is = absurd (cc)
empty_good round heap (cell.Function function) empty is = absurd (cc)
empty_good round heap (cell.Builtin name) empty is = absurd (cc)
empty_good round heap (cell.Bound receiver method) empty is = absurd (cc)
empty_good round heap (cell.Struct fields) empty is = absurd (cc)
empty_good round heap (cell.Label label) empty is = absurd (cc)
empty_good round heap (cell.Path repo segments) empty is = absurd (cc)
empty_good round heap (cell.Host kind fields) empty is = absurd (cc)

-- a cell's content taken, with an empty one in its place
swapped_good : (round : Surroundings) (heap : HeapState) (number : ℕ) (held : HeapCell)
    (empty : Cell)
    → slice_get heap.cells number ≡ Some held
    → emptied held.cell ≡ Some empty
    → IsHeapOf round heap
    → HasContent round (with_content number held empty heap) held.cell
swapped_good round heap number held empty there empties good =
    let now : HeapState = with_content number held empty heap in
    let new : HeapCell = record { cell = empty; walks = held.walks } in
    let becomes : Becomes held.cell empty = becomes_empty held.cell empty empties in
    record {
      heap_stands = set_good round heap now number held new refl refl good.sum_stands there
          becomes good (empty_good round now held.cell empty empties);
      content_stands = cell_extends round heap now held.cell
          (set_extends heap now number held new refl there becomes)
          (cell_of round heap heap.cells number held good.cells_stand there);
    }

taken_good_at : (round : Surroundings) (heap : HeapState) (number : ℕ) (held : HeapCell)
    (empty : Option Cell) (frozen walked_on : Bool) (change : Cell × HeapState)
    → slice_get heap.cells number ≡ Some held
    → emptied held.cell ≡ empty
    → IsHeapOf round heap
    → taken_by (changeable_by number empty frozen walked_on) heap ≡ Ok change
    → HasContent round change.1 change.0
taken_good_at round heap number held None frozen walked_on change there empties good is =
    absurd (cc)
taken_good_at round heap number held (Some empty) true walked_on change there empties good is =
    absurd (cc)
taken_good_at round heap number held (Some empty) false false change there empties good is =
    absurd (cc)
taken_good_at round heap number held (Some empty) false true change there empties good is =
    let swaps : swapped number empty heap ≡ Ok (held.cell, with_content number held empty heap) =
    ap (λ one. content_swapped number one empty heap) there in
    let same : (held.cell, with_content number held empty heap) ≡ change = cc in
    subst (λ it. HasContent round it.1 it.0) same
    (swapped_good round heap number held empty there empties good)

taken_good_of : (round : Surroundings) (heap : HeapState) (number : ℕ) (held : Option HeapCell)
    (change : Cell × HeapState)
    → slice_get heap.cells number ≡ held
    → IsHeapOf round heap
    → taken_by (cell_changeable number held heap) heap ≡ Ok change
    → HasContent round change.1 change.0
taken_good_of round heap number None change there good is = absurd (cc)
taken_good_of round heap number (Some held) change there good is =
    taken_good_at round heap number held (emptied held.cell) (is_frozen heap number)
    (held.walks == 0) change there refl good is

pub taken_good : (round : Surroundings) (heap : HeapState) (value : Val)
    (change : Cell × HeapState)
    → IsHeapOf round heap
    → taken value heap ≡ Ok change
    → HasContent round change.1 change.0
taken_good round heap val.None change good is = absurd (cc)
taken_good round heap (val.Bool flag) change good is = absurd (cc)
taken_good round heap (val.Int number) change good is = absurd (cc)
taken_good round heap (val.Cell number) change good is =
    taken_good_of round heap number (slice_get heap.cells number) change refl good is

-- a content put back
put_back_good : (round : Surroundings) (heap : HeapState) (number : ℕ) (held : Option HeapCell)
    (content : Cell)
    → slice_get heap.cells number ≡ held
    → ((one : HeapCell) → held ≡ Some one → Becomes one.cell content)
    → IsHeapOf round heap
    → IsCellOf round heap content
    → IsHeapOf round (put_back number held content heap)
put_back_good round heap number None content there fits good stands = good
put_back_good round heap number (Some held) content there fits good stands =
    let now : HeapState = with_content number held content heap in
    let new : HeapCell = record { cell = content; walks = held.walks } in
    let becomes : Becomes held.cell content = fits held refl in
    set_good round heap now number held new refl refl good.sum_stands there becomes good
    (cell_extends round heap now content
    (set_extends heap now number held new refl there becomes) stands)

number_put_back_good : (round : Surroundings) (heap : HeapState) (value : Val) (content : Cell)
    → FitsAt heap value content
    → IsHeapOf round heap
    → IsCellOf round heap content
    → IsHeapOf round (number_put_back (cell_number value) content heap)
number_put_back_good round heap val.None content fits good stands = good
number_put_back_good round heap (val.Bool flag) content fits good stands = good
number_put_back_good round heap (val.Int number) content fits good stands = good
number_put_back_good round heap (val.Cell number) content fits good stands =
    put_back_good round heap number (slice_get heap.cells number) content refl fits good stands

with_sum_good : (round : Surroundings) (heap : HeapState) (sum : Option ℕ)
    → ((one : ℕ) → sum ≡ Some one → one ≤ most_sizes)
    → IsHeapOf round heap
    → IsHeapOf round (with_sum sum heap)
with_sum_good round heap None within good = good
with_sum_good round heap (Some sum) within good =
    same_good round heap (record heap { sum = sum }) refl good.frozen_stands (within sum refl) good

pub given_good : (round : Surroundings) (heap : HeapState) (value : Val) (content : Cell)
    (added : ℕ)
    → FitsAt heap value content
    → IsHeapOf round heap
    → IsCellOf round heap content
    → IsHeapOf round (given value content added heap)
given_good round heap value content added fits good stands =
    with_sum_good round (number_put_back (cell_number value) content heap)
    (sum_for content added heap) (λ sum there. sum_within content added heap sum there)
    (number_put_back_good round heap value content fits good stands)
