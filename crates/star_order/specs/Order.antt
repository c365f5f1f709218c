-- The order of values: the Starlark specification, "Comparisons". Two integers, two bools, two
-- strings by their scalar values, two lists and two tuples item by item; nothing else has an order.
use Rattle.std.specs.Prelude.{ℕ, zero, suc, List, [], ◌∷◌, Option, Some, None, Result, Ok, Err}
use Rattle.std.specs.Cmp.Lexicographic.{slice_cmp}
use Rattle.std.specs.Ordering.{bool_cmp, int_cmp, nat_cmp}
use Rattle.std.specs.declared.cmp.Ordering.{Ordering}
use Rattle.std.specs.declared.cmp.Ordering.TheVariants.{Less, Equal, Greater}
use Rattle.star_core.specs.Heaps.{HeapState, cell_at}
use Rattle.star_core.specs.declared.cells.Cell.{Cell}
use Rattle.star_core.specs.declared.cells.Cell.TheVariants as cell
use Rattle.star_core.specs.declared.faults.Fault.{Fault}
use Rattle.star_core.specs.declared.faults.Fault.TheVariants as fault
use Rattle.star_core.specs.declared.values.Val.{Val}
use Rattle.star_core.specs.declared.values.Val.TheVariants as val
use Rattle.star_order.specs.Contained.{Inside, Rule}
use Rattle.star_trees.specs.Nesting.{deepest}

-- the order of the rest where two are equal: the first that differ, or have no order, decide
abbrev pub then_order : Result Ordering Fault → Result Ordering Fault → Result Ordering Fault
then_order (Ok Less) rest = Ok Less
then_order (Ok Equal) rest = rest
then_order (Ok Greater) rest = Ok Greater
then_order (Err reason) rest = Err reason

-- item by item; what ends first is less
abbrev pub items_order : Rule Ordering → List Val → List Val → Result Ordering Fault
items_order order [] [] = Ok Equal
items_order order [] (other ∷ others) = Ok Less
items_order order (item ∷ items) [] = Ok Greater
items_order order (item ∷ items) (other ∷ others) =
    then_order (order item other) (items_order order items others)

abbrev pub lists_order : Inside Ordering → List Val → List Val → Result Ordering Fault
lists_order None items others = Err fault.Depth
lists_order (Some order) items others = items_order order items others

-- a text beside a cell: texts in UTF-8 are in the order of their scalar values where they are in
-- that of their bytes
unfoldable pub text_order : List ℕ → Cell → Result Ordering Fault
text_order text (cell.Text other) = Ok (slice_cmp nat_cmp text other)
text_order text _ = Err fault.Kind

-- a list beside a cell
unfoldable pub list_order : Inside Ordering → List Val → Cell → Result Ordering Fault
list_order inside items (cell.List others) = lists_order inside items others
list_order inside items _ = Err fault.Kind

-- a tuple beside a cell
unfoldable pub tuple_order : Inside Ordering → List Val → Cell → Result Ordering Fault
tuple_order inside items (cell.Tuple others) = lists_order inside items others
tuple_order inside items _ = Err fault.Kind

unfoldable pub cells_order : Inside Ordering → Cell → Cell → Result Ordering Fault
cells_order inside (cell.Text text) other = text_order text other
cells_order inside (cell.List items) other = list_order inside items other
cells_order inside (cell.Tuple items) other = tuple_order inside items other
cells_order inside _ other = Err fault.Kind

-- the cells of two values
abbrev pub held_order : Inside Ordering → Option Cell → Option Cell → Result Ordering Fault
held_order inside (Some cell) (Some other) = cells_order inside cell other
held_order inside (Some cell) None = Err fault.Kind
held_order inside None other = Err fault.Kind

-- two values, by the order of those inside a container
unfoldable pub values_order : Inside Ordering → HeapState → Val → Val → Result Ordering Fault
values_order inside heap (val.Bool flag) (val.Bool other) = Ok (bool_cmp flag other)
values_order inside heap (val.Int number) (val.Int other) = Ok (int_cmp number other)
values_order inside heap (val.Cell number) (val.Cell other) =
    held_order inside (cell_at heap (val.Cell number)) (cell_at heap (val.Cell other))
values_order inside heap _ _ = Err fault.Kind

-- two values in which so many containers nest at most
unfoldable pub order_within : ℕ → HeapState → Rule Ordering
order_within zero heap value other = values_order None heap value other
order_within (suc depth) heap value other =
    values_order (Some (order_within depth heap)) heap value other

-- the rule for what lies inside the outermost of so many containers
unfoldable pub order_inside : ℕ → HeapState → Inside Ordering
order_inside zero heap = None
order_inside (suc depth) heap = Some (order_within depth heap)

-- the order of two values
abbrev pub order : HeapState → Rule Ordering
order heap value other = order_within deepest heap value other
