-- The order of values is one, kind by kind and layer by layer.
use Rattle.std.proofs.Common.{ℕ, zero, suc, List, Option, Some, None, Ok, Err}
use Rattle.std.proofs.lemmas.Cmp.{int_cmp_total, nat_list_cmp_total}
use Rattle.std.specs.Cmp.Lexicographic.{slice_cmp}
use Rattle.std.specs.Ordering.{int_cmp, nat_cmp}
use Rattle.std.specs.declared.cmp.Ordering.{Ordering}
use Rattle.star_core.specs.Heaps.{HeapState, cell_at}
use Rattle.star_core.specs.declared.cells.Cell.{Cell}
use Rattle.star_core.specs.declared.cells.Cell.TheVariants as cell
use Rattle.star_core.specs.declared.faults.Fault.TheVariants as fault
use Rattle.star_core.specs.declared.values.Val.{Val}
use Rattle.star_core.specs.declared.values.Val.TheVariants as val
use Rattle.star_order.specs.Contained.{Inside}
use Rattle.star_order.specs.Order.{cells_order, held_order, list_order, lists_order}
use Rattle.star_order.specs.Order.{order_within, text_order, tuple_order, values_order}
use Rattle.star_order_laws.specs.Orders.{Chained, IsOrder, Turned}
use Rattle.star_order_laws.proofs.Chains.{chained_missed, flags_chained, flags_turned}
use Rattle.star_order_laws.proofs.Chains.{items_chained, items_turned, total_chained, total_turned}

-- what is asked inside containers is an order
abbrev pub IsOrderInside : Inside Ordering → Type 0
IsOrderInside None = Unit {0}
IsOrderInside (Some rule) = IsOrder rule

lists_turned : (inside : Inside Ordering) (items others : List Val)
    → IsOrderInside inside
    → Turned (lists_order inside items others) (lists_order inside others items)
lists_turned None items others is = tt
lists_turned (Some rule) items others is = items_turned rule is items others

lists_chained : (inside : Inside Ordering) (items middles others : List Val)
    → IsOrderInside inside
    → Chained (lists_order inside items middles) (lists_order inside middles others)
    (lists_order inside items others)
lists_chained None items middles others is = tt
lists_chained (Some rule) items middles others is = items_chained rule is items middles others

module _ (inside : Inside Ordering) (is : IsOrderInside inside) where
  text_turned : (text : List ℕ) (other : Cell)
      → Turned (text_order text other) (cells_order inside other (cell.Text text))
  unfolding text_order cells_order
  text_turned text (cell.Text other) =
      total_turned (slice_cmp nat_cmp) nat_list_cmp_total text other
  text_turned text _ = tt

  list_turned : (items : List Val) (other : Cell)
      → Turned (list_order inside items other) (cells_order inside other (cell.List items))
  unfolding list_order cells_order
  list_turned items (cell.List others) = lists_turned inside items others is
  list_turned items _ = tt

  tuple_turned : (items : List Val) (other : Cell)
      → Turned (tuple_order inside items other) (cells_order inside other (cell.Tuple items))
  unfolding tuple_order cells_order
  tuple_turned items (cell.Tuple others) = lists_turned inside items others is
  tuple_turned items _ = tt

  cells_turned : (one other : Cell)
      → Turned (cells_order inside one other) (cells_order inside other one)
  unfolding cells_order
  cells_turned (cell.Text text) other = text_turned text other
  cells_turned (cell.List items) other = list_turned items other
  cells_turned (cell.Tuple items) other = tuple_turned items other
  cells_turned _ other = tt

  held_turned : (one other : Option Cell)
      → Turned (held_order inside one other) (held_order inside other one)
  held_turned (Some one) (Some other) = cells_turned one other
  held_turned (Some one) None = tt
  held_turned None other = tt

  values_turned : (heap : HeapState) (one other : Val)
      → Turned (values_order inside heap one other) (values_order inside heap other one)
  unfolding values_order
  values_turned heap (val.Bool flag) (val.Bool other) = flags_turned flag other
  values_turned heap (val.Int number) (val.Int other) =
      total_turned int_cmp int_cmp_total number other
  values_turned heap (val.Cell number) (val.Cell other) =
      held_turned (cell_at heap (val.Cell number)) (cell_at heap (val.Cell other))
  values_turned heap _ _ = tt

  -- two texts before a cell
  texts_chained : (text middle : List ℕ) (other : Cell)
      → Chained (Ok (slice_cmp nat_cmp text middle)) (text_order middle other)
      (text_order text other)
  unfolding text_order
  texts_chained text middle (cell.Text other) =
      total_chained (slice_cmp nat_cmp) nat_list_cmp_total text middle other
  texts_chained text middle _ = tt

  text_chained : (text : List ℕ) (middle other : Cell)
      → Chained (text_order text middle) (cells_order inside middle other) (text_order text other)
  unfolding text_order cells_order
  text_chained text (cell.Text middle) other = texts_chained text middle other
  text_chained text _ other = tt

  -- two lists before a cell
  items_before : (items middles : List Val) (other : Cell)
      → Chained (lists_order inside items middles) (list_order inside middles other)
      (list_order inside items other)
  unfolding list_order
  items_before items middles (cell.List others) = lists_chained inside items middles others is
  items_before items middles _ =
      chained_missed (lists_order inside items middles) (Err fault.Kind) fault.Kind

  list_chained : (items : List Val) (middle other : Cell)
      → Chained (list_order inside items middle) (cells_order inside middle other)
      (list_order inside items other)
  unfolding list_order cells_order
  list_chained items (cell.List middles) other = items_before items middles other
  list_chained items _ other = tt

  -- two tuples before a cell
  parts_before : (items middles : List Val) (other : Cell)
      → Chained (lists_order inside items middles) (tuple_order inside middles other)
      (tuple_order inside items other)
  unfolding tuple_order
  parts_before items middles (cell.Tuple others) = lists_chained inside items middles others is
  parts_before items middles _ =
      chained_missed (lists_order inside items middles) (Err fault.Kind) fault.Kind

  tuple_chained : (items : List Val) (middle other : Cell)
      → Chained (tuple_order inside items middle) (cells_order inside middle other)
      (tuple_order inside items other)
  unfolding tuple_order cells_order
  tuple_chained items (cell.Tuple middles) other = parts_before items middles other
  tuple_chained items _ other = tt

  cells_chained : (one middle other : Cell)
      → Chained (cells_order inside one middle) (cells_order inside middle other)
      (cells_order inside one other)
  unfolding cells_order
  cells_chained (cell.Text text) middle other = text_chained text middle other
  cells_chained (cell.List items) middle other = list_chained items middle other
  cells_chained (cell.Tuple items) middle other = tuple_chained items middle other
  cells_chained _ middle other = tt

  held_chained : (one middle other : Option Cell)
      → Chained (held_order inside one middle) (held_order inside middle other)
      (held_order inside one other)
  held_chained (Some one) (Some middle) (Some other) = cells_chained one middle other
  held_chained (Some one) (Some middle) None =
      chained_missed (cells_order inside one middle) (Err fault.Kind) fault.Kind
  held_chained (Some one) None other = tt
  held_chained None middle other = tt

  cell_values_chained : (heap : HeapState) (one middle : ℕ) (other : Val)
      → Chained (values_order inside heap (val.Cell one) (val.Cell middle))
      (values_order inside heap (val.Cell middle) other)
      (values_order inside heap (val.Cell one) other)
  unfolding values_order
  cell_values_chained heap one middle (val.Cell other) =
      held_chained (cell_at heap (val.Cell one)) (cell_at heap (val.Cell middle))
      (cell_at heap (val.Cell other))
  cell_values_chained heap one middle _ =
      chained_missed (held_order inside (cell_at heap (val.Cell one))
      (cell_at heap (val.Cell middle))) (Err fault.Kind) fault.Kind

  values_chained : (heap : HeapState) (one middle other : Val)
      → Chained (values_order inside heap one middle) (values_order inside heap middle other)
      (values_order inside heap one other)
  unfolding values_order
  values_chained heap (val.Bool flag) (val.Bool middle) (val.Bool other) =
      flags_chained flag middle other
  values_chained heap (val.Int number) (val.Int middle) (val.Int other) =
      total_chained int_cmp int_cmp_total number middle other
  values_chained heap (val.Cell one) (val.Cell middle) other =
      cell_values_chained heap one middle other
  values_chained heap _ _ _ = tt

pub within_is_order : (depth : ℕ) (heap : HeapState) → IsOrder (order_within depth heap)
unfolding order_within
within_is_order zero heap = record {
  turns = values_turned None tt heap;
  goes_on = values_chained None tt heap;
}
within_is_order (suc depth) heap = record {
  turns = values_turned (Some (order_within depth heap)) (within_is_order depth heap) heap;
  goes_on = values_chained (Some (order_within depth heap)) (within_is_order depth heap) heap;
}
