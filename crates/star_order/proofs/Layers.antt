-- One layer of a recursion on depth.
use Rattle.std.proofs.Common.{◌≡◌, ℕ, zero, suc, ◌-◌, ◌<◌, List, [], ◌∷◌, length, drop, Some, None}
use Rattle.std.proofs.Common.{Ok, refl, ap, arith}
use Rattle.std.specs.declared.cmp.Ordering.{Ordering}
use Rattle.std.specs.declared.cmp.Ordering.TheVariants.{Greater}
use Rattle.star_core.specs.Heaps.{HeapState}
use Rattle.star_core.specs.declared.values.Val.{Val}
use Rattle.star_order.specs.Equality.{equal_inside, equal_within, values_equal}
use Rattle.star_order.specs.Contained.{Rule}
use Rattle.star_order.specs.Order.{items_order, order_inside, order_within, values_order}

pub order_within_layer : (depth : ℕ) (heap : HeapState) (value other : Val)
    → order_within depth heap value other ≡ values_order (order_inside depth heap) heap value other
unfolding order_within order_inside
order_within_layer zero heap value other = refl
order_within_layer (suc depth) heap value other = refl

pub order_inside_none : (heap : HeapState) → order_inside 0 heap ≡ None
unfolding order_inside
order_inside_none heap = refl

pub order_inside_some : (depth : ℕ) (heap : HeapState)
    → 0 < depth
    → order_inside depth heap ≡ Some (order_within (depth - 1) heap)
unfolding order_inside
order_inside_some zero heap above = absurd (omega arith)
order_inside_some (suc depth) heap above =
    let same : depth ≡ suc depth - 1 = omega arith in
    ap (λ (one : ℕ). Some (order_within one heap)) same

-- a list that ends before the other is less
pub ended_greater : (rule : Rule Ordering) (items others : List Val) (index : ℕ)
    → index < length items
    → length others < 1
    → items_order rule (drop index items) others ≡ Ok Greater
ended_greater rule (item ∷ items) [] zero within none = refl
ended_greater rule (item ∷ items) [] (suc index) within none =
    ended_greater rule items [] index (omega arith) none
ended_greater rule [] others index within none = absurd (omega arith)
ended_greater rule (item ∷ items) (other ∷ others) index within none = absurd (omega arith)

pub equal_within_layer : (depth : ℕ) (heap : HeapState) (value other : Val)
    → equal_within depth heap value other ≡ values_equal (equal_inside depth heap) heap value other
unfolding equal_within equal_inside
equal_within_layer zero heap value other = refl
equal_within_layer (suc depth) heap value other = refl

pub equal_inside_none : (heap : HeapState) → equal_inside 0 heap ≡ None
unfolding equal_inside
equal_inside_none heap = refl

pub equal_inside_some : (depth : ℕ) (heap : HeapState)
    → 0 < depth
    → equal_inside depth heap ≡ Some (equal_within (depth - 1) heap)
unfolding equal_inside
equal_inside_some zero heap above = absurd (omega arith)
equal_inside_some (suc depth) heap above =
    let same : depth ≡ suc depth - 1 = omega arith in
    ap (λ (one : ℕ). Some (equal_within one heap)) same
