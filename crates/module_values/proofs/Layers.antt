-- A value is read in layers.
use Rattle.std.proofs.Common.{◌≡◌, ℕ, zero, suc, ◌-◌, List, [], Ok, ap, arith, refl}
use Rattle.std.proofs.lemmas.Bool.{ne_eqb}
use Rattle.star_core.specs.Heaps.{HeapState}
use Rattle.star_core.specs.declared.dict.Pair.{Pair}
use Rattle.star_core.specs.declared.values.Val.{Val}
use Rattle.module_values.specs.PlainValues.{each_item, each_pair, items_within, pairs_within}
use Rattle.module_values.specs.PlainValues.{plain_within, value_layer}

pub items_within-suc : (depth : ℕ) (heap : HeapState) (items : List Val)
    → each_item (plain_within depth heap) (Ok []) items ≡ items_within (suc depth) heap items
items_within-suc depth heap items =
    let one_less : depth ≡ suc depth - 1 = omega arith in
    rw (ne_eqb (suc depth) 0 (λ e. absurd (omega arith)))
    (ap (λ n. each_item (plain_within n heap) (Ok []) items) one_less)

pub pairs_within-suc : (depth : ℕ) (heap : HeapState) (pairs : List Pair)
    → each_pair (plain_within depth heap) (Ok []) pairs
    ≡ pairs_within (suc depth) heap pairs
pairs_within-suc depth heap pairs =
    let one_less : depth ≡ suc depth - 1 = omega arith in
    rw (ne_eqb (suc depth) 0 (λ e. absurd (omega arith)))
    (ap (λ n. each_pair (plain_within n heap) (Ok []) pairs) one_less)

pub plain_within_layer : (depth : ℕ) (heap : HeapState) (value : Val)
    → plain_within depth heap value
    ≡ value_layer (items_within depth heap) (pairs_within depth heap) heap value
unfolding plain_within
plain_within_layer zero heap value = refl
plain_within_layer (suc depth) heap value =
    λ i. value_layer (λ items. items_within-suc depth heap items i)
    (λ pairs. pairs_within-suc depth heap pairs i) heap value
