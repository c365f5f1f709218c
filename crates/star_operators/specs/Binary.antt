-- The binary operators: the Starlark specification, "Binary operators" and "Comparisons". `and` and
-- `or` are none of them, since they don't evaluate both operands; nor is `%` with a string on its
-- left, which formats.
use Rattle.std.specs.Prelude.{ℕ, zero, suc, ◌*◌, ℤ, pos, negsuc, Bool, nat_lt, if◌then◌else◌}
use Rattle.std.specs.Prelude.{List, [], ◌∷◌, ◌++◌, length, Option, Some, Result, Ok, Err}
use Rattle.std.specs.Ordering.{is_ge, is_gt, is_le, is_lt}
use Rattle.std.specs.declared.cmp.Ordering.{Ordering}
use Rattle.star_core.specs.Dicts.{Entry, with_entry}
use Rattle.star_core.specs.Heaps.{Change, HeapState, cell_at}
use Rattle.star_core.specs.Sizes.{most_bytes, most_entries}
use Rattle.star_core.specs.declared.cells.Cell.{Cell}
use Rattle.star_core.specs.declared.cells.Cell.TheVariants as cell
use Rattle.star_core.specs.declared.faults.Fault.{Fault}
use Rattle.star_core.specs.declared.faults.Fault.TheVariants as fault
use Rattle.star_core.specs.declared.values.Val.{Val}
use Rattle.star_core.specs.declared.values.Val.TheVariants as val
use Rattle.star_numbers.specs.Integers.{bits_of_both, bits_of_either, bits_of_one, difference}
use Rattle.star_numbers.specs.Integers.{product, quotient, remainder, shifted_left, shifted_right}
use Rattle.star_numbers.specs.Integers.{sum}
use Rattle.star_operators.specs.Members.{among}
use Rattle.star_operators.specs.Outcomes.{Came, finished, number_came, truth_came, turned}
use Rattle.star_operators.specs.declared.outcomes.Outcome.TheVariants.{New}
use Rattle.star_order.specs.Equality.{equal}
use Rattle.star_order.specs.Order.{order}
use Rattle.star_trees.specs.declared.trees.BinOp.{BinOp}
use Rattle.star_trees.specs.declared.trees.BinOp.TheVariants as op

-- two integers or two cells, and nothing else
unfoldable pub operands : (ℤ → ℤ → Came)
    → (Option Cell → Option Cell → Came)
    → HeapState
    → Val
    → Val
    → Came
operands numbers cells heap (val.Int left) (val.Int right) = numbers left right
operands numbers cells heap (val.Cell left) (val.Cell right) =
    cells (cell_at heap (val.Cell left)) (cell_at heap (val.Cell right))
operands numbers cells heap _ _ = Err fault.Kind

-- no two cells
abbrev pub no_cells : Option Cell → Option Cell → Came
no_cells left right = Err fault.Kind

-- the operators on integers alone
unfoldable pub computed : BinOp → ℤ → ℤ → Result ℤ Fault
computed op.BitXor left right = Ok (bits_of_one left right)
computed op.BitAnd left right = Ok (bits_of_both left right)
computed op.Shl left right = shifted_left left right
computed op.Shr left right = shifted_right left right
computed op.Sub left right = difference left right
computed op.Div left right = quotient left right
computed op.Mod left right = remainder left right
computed _ left right = Err fault.Kind

-- such an operator on two values
unfoldable pub computed_came : BinOp → HeapState → Val → Val → Came
computed_came operator heap left right =
    operands (λ one other. number_came (computed operator one other)) no_cells heap left right

-- two strings, lists or tuples, one behind the other
unfoldable pub joined : Option Cell → Option Cell → Came
joined (Some (cell.Text left)) (Some (cell.Text right)) = Ok (New (cell.Text (left ++ right)))
joined (Some (cell.List left)) (Some (cell.List right)) = Ok (New (cell.List (left ++ right)))
joined (Some (cell.Tuple left)) (Some (cell.Tuple right)) = Ok (New (cell.Tuple (left ++ right)))
joined _ _ = Err fault.Kind

-- integers are added, and other values joined
abbrev pub added : HeapState → Val → Val → Came
added = operands (λ left right. number_came (sum left right)) joined

-- a list so many times, one behind the other
unfoldable pub times : {A : Type 0} → ℕ → List A → List A
times zero items = []
times (suc count) items = items ++ times count items

-- how often a number repeats: a negative one never
abbrev pub turns : ℤ → ℕ
turns (pos count) = count
turns (negsuc less) = 0

-- items so many times, unless they are more than any container may have
abbrev pub repeated : {A : Type 0} → (most : ℕ) → List A → ℤ → Result (List A) Fault
repeated most items count =
    if nat_lt most (turns count * length items) then Err fault.Size
    else Ok (times (turns count) items)

-- the texts and the containers of repeated bytes and items
abbrev pub text_came : Result (List ℕ) Fault → Came
text_came (Ok text) = Ok (New (cell.Text text))
text_came (Err reason) = Err reason

abbrev pub list_came : Result (List Val) Fault → Came
list_came (Ok items) = Ok (New (cell.List items))
list_came (Err reason) = Err reason

abbrev pub tuple_came : Result (List Val) Fault → Came
tuple_came (Ok items) = Ok (New (cell.Tuple items))
tuple_came (Err reason) = Err reason

-- a string, a list or a tuple repeats; nothing else does
unfoldable pub repeats : Option Cell → ℤ → Came
repeats (Some (cell.Text text)) count = text_came (repeated most_bytes text count)
repeats (Some (cell.List items)) count = list_came (repeated most_entries items count)
repeats (Some (cell.Tuple items)) count = tuple_came (repeated most_entries items count)
repeats _ count = Err fault.Kind

-- two integers are multiplied, and what repeats does so, whichever side it is on
unfoldable pub multiplied : HeapState → Val → Val → Came
multiplied heap (val.Int left) (val.Int right) = number_came (product left right)
multiplied heap (val.Int left) (val.Cell right) = repeats (cell_at heap (val.Cell right)) left
multiplied heap (val.Cell left) (val.Int right) = repeats (cell_at heap (val.Cell left)) right
multiplied heap _ _ = Err fault.Kind

-- the entries of a dictionary, and then those of another one: the latter's value wins, and its new
-- keys come last
abbrev pub united : List Entry → List Entry → List Entry
united entries [] = entries
united entries (entry ∷ others) = united (with_entry entry.content entry.pair entries) others

-- two dictionaries
unfoldable pub dicts_united : Option Cell → Option Cell → Came
dicts_united (Some (cell.Dict left)) (Some (cell.Dict right)) =
    Ok (New (cell.Dict (united left right)))
dicts_united _ _ = Err fault.Kind

-- the bits of either integer, or the entries of two dictionaries
abbrev pub either : HeapState → Val → Val → Came
either = operands (λ left right. number_came (Ok (bits_of_either left right))) dicts_united

-- a test of an order
abbrev pub ordered : (Ordering → Bool) → Result Ordering Fault → Result Bool Fault
ordered test (Ok order) = Ok (test order)
ordered test (Err reason) = Err reason

-- the operators that compare, and membership
unfoldable pub tested : BinOp → HeapState → Val → Val → Result Bool Fault
tested op.Eq heap left right = equal heap left right
tested op.Ne heap left right = turned (equal heap left right)
tested op.Lt heap left right = ordered is_lt (order heap left right)
tested op.Gt heap left right = ordered is_gt (order heap left right)
tested op.Le heap left right = ordered is_le (order heap left right)
tested op.Ge heap left right = ordered is_ge (order heap left right)
tested op.Within heap left right = among heap left (cell_at heap right)
tested op.NotWithin heap left right = turned (among heap left (cell_at heap right))
tested _ heap left right = Err fault.Kind

-- a binary operator on two values
unfoldable pub binary_came : BinOp → HeapState → Val → Val → Came
binary_came op.Or heap left right = Err fault.Kind
binary_came op.And heap left right = Err fault.Kind
binary_came op.Add heap left right = added heap left right
binary_came op.Mul heap left right = multiplied heap left right
binary_came op.BitOr heap left right = either heap left right
binary_came op.Eq heap left right = truth_came (tested op.Eq heap left right)
binary_came op.Ne heap left right = truth_came (tested op.Ne heap left right)
binary_came op.Lt heap left right = truth_came (tested op.Lt heap left right)
binary_came op.Gt heap left right = truth_came (tested op.Gt heap left right)
binary_came op.Le heap left right = truth_came (tested op.Le heap left right)
binary_came op.Ge heap left right = truth_came (tested op.Ge heap left right)
binary_came op.Within heap left right = truth_came (tested op.Within heap left right)
binary_came op.NotWithin heap left right = truth_came (tested op.NotWithin heap left right)
binary_came op.BitXor heap left right = computed_came op.BitXor heap left right
binary_came op.BitAnd heap left right = computed_came op.BitAnd heap left right
binary_came op.Shl heap left right = computed_came op.Shl heap left right
binary_came op.Shr heap left right = computed_came op.Shr heap left right
binary_came op.Sub heap left right = computed_came op.Sub heap left right
binary_came op.Div heap left right = computed_came op.Div heap left right
binary_came op.Mod heap left right = computed_came op.Mod heap left right

-- a binary operator on two values, which leaves a value
abbrev pub binary_of : BinOp → Val → Val → HeapState → Change Val
binary_of operator left right heap = finished (binary_came operator heap left right) heap
