-- What is read of a heap is good, and no deeper than is allowed.
use Rattle.std.proofs.Common.{◌≡◌, ℕ, zero, suc, ◌≤◌, true, List, [], ◌∷◌, ◌++◌, map}
use Rattle.std.proofs.Common.{Result}
use Rattle.std.proofs.Common.{Ok, Err, Option, Some, None, IfOk, refl, ◌∙◌, sym, subst, arith}
use Rattle.std.proofs.lemmas.Bool.{and_from, and_parts, cond_both}
use Rattle.bz_base.specs.PlainLabels.{not_plain}
use Rattle.bz_base.specs.PlainReading.{added, all_good, deepest, has_64_bits, is_good, is_good_pair}
use Rattle.bz_base.specs.PlainReading.{items_plain, pair_depth, paired, pairs_plain, plain_depth}
use Rattle.bz_base.specs.declared.plain_labels.NotPlain.{NotPlain}
use Rattle.bz_base.specs.declared.plain_values.Plain.{Plain}
use Rattle.bz_base.specs.declared.plain_values.PlainPair.{PlainPair}
use Rattle.bz_base.proofs.PlainLaws.{depth-None, depth-Flag, depth-Int, depth-Text, depth-Items}
use Rattle.bz_base.proofs.PlainLaws.{depth-Pairs, depth-pair, good-None, good-Flag, good-Int}
use Rattle.bz_base.proofs.PlainLaws.{good-Text, good-Items, good-Pairs, good-pair}
use Rattle.star_core.specs.Heaps.{HeapState, cell_at}
use Rattle.star_core.specs.declared.cells.Cell.{Cell}
use Rattle.star_core.specs.declared.cells.Cell.TheVariants as cell
use Rattle.star_core.specs.declared.dict.Pair.{Pair}
use Rattle.star_core.specs.declared.values.Val.{Val}
use Rattle.star_core.specs.declared.values.Val.TheVariants as val
use Rattle.module_values.specs.PlainValues.{ReadPlain, cell_plain, each_item, each_pair}
use Rattle.module_values.specs.PlainValues.{pair_of, plain_of, plain_within}
use Rattle.module_values.specs.PlainValues.{value_layer}

-- a good value, no deeper than so much
abbrev Good : ℕ → Plain → Type 0
Good depth value = (is_good value ≡ true) × (plain_depth value ≤ depth)

abbrev GoodPair : ℕ → PlainPair → Type 0
GoodPair depth pair = (is_good_pair pair ≡ true) × (pair_depth pair ≤ depth)

abbrev AreGood : ℕ → List Plain → Type 0
AreGood depth values = (all_good (map is_good values) ≡ true)
    × (deepest (map plain_depth values) ≤ depth)

abbrev AreGoodPairs : ℕ → List PlainPair → Type 0
AreGoodPairs depth pairs = (all_good (map is_good_pair pairs) ≡ true)
    × (deepest (map pair_depth pairs) ≤ depth)

items-longer : (depth : ℕ) (before : List Plain) (value : Plain)
    → AreGood depth before
    → Good depth value
    → AreGood depth (before ++ value ∷ [])
items-longer depth [] value all good = (and_from _ _ good.0 refl, omega (arith, good.1))
items-longer depth (one ∷ before) value all good =
    let parts : (is_good one ≡ true) × (all_good (map is_good before) ≡ true) =
    and_parts _ _ all.0 in
    let rest : AreGood depth (before ++ value ∷ []) =
    items-longer depth before value (parts.1, omega (arith, all.1)) good in
    (and_from _ _ parts.0 rest.0, omega (arith, all.1, rest.1))

pairs-longer : (depth : ℕ) (before : List PlainPair) (pair : PlainPair)
    → AreGoodPairs depth before
    → GoodPair depth pair
    → AreGoodPairs depth (before ++ pair ∷ [])
pairs-longer depth [] pair all good = (and_from _ _ good.0 refl, omega (arith, good.1))
pairs-longer depth (one ∷ before) pair all good =
    let parts : (is_good_pair one ≡ true) × (all_good (map is_good_pair before) ≡ true) =
    and_parts _ _ all.0 in
    let rest : AreGoodPairs depth (before ++ pair ∷ []) =
    pairs-longer depth before pair (parts.1, omega (arith, all.1)) good in
    (and_from _ _ parts.0 rest.0, omega (arith, all.1, rest.1))

items-next : (depth : ℕ) (read : Val → ReadPlain) (before : List Plain) (items : List Val)
    (r : ReadPlain)
    → AreGood depth before
    → IfOk r (Good depth)
    → ((longer : List Plain)
    → AreGood depth longer
    → IfOk (each_item read (Ok longer) items) (AreGood depth))
    → IfOk (each_item read (added before r) items) (AreGood depth)
items-next depth read before items (Err bad) all good more = tt
items-next depth read before items (Ok value) all good more =
    more (before ++ value ∷ []) (items-longer depth before value all good)

items-good : (depth : ℕ) (read : Val → ReadPlain)
    → ((value : Val) → IfOk (read value) (Good depth))
    → (before : List Plain) (items : List Val)
    → AreGood depth before
    → IfOk (each_item read (Ok before) items) (AreGood depth)
items-good depth read reads before [] all = all
items-good depth read reads before (item ∷ items) all =
    items-next depth read before items (read item) all (reads item)
    (λ longer good. items-good depth read reads longer items good)

pair-good : (depth : ℕ) (key value : ReadPlain)
    → IfOk key (Good depth)
    → IfOk value (Good depth)
    → IfOk (paired key value) (GoodPair depth)
pair-good depth (Err bad) value one other = tt
pair-good depth (Ok k) (Err bad) one other = tt
pair-good depth (Ok k) (Ok v) one other =
    let pair : PlainPair = record { key = k; value = v } in
    (good-pair pair ∙ and_from _ _ one.0 other.0, omega (arith, depth-pair pair, one.1, other.1))

pairs-next : (depth : ℕ) (read : Val → ReadPlain) (before : List PlainPair) (pairs : List Pair)
    (r : Result PlainPair NotPlain)
    → AreGoodPairs depth before
    → IfOk r (GoodPair depth)
    → ((longer : List PlainPair)
    → AreGoodPairs depth longer
    → IfOk (each_pair read (Ok longer) pairs) (AreGoodPairs depth))
    → IfOk (each_pair read (added before r) pairs) (AreGoodPairs depth)
pairs-next depth read before pairs (Err bad) all good more = tt
pairs-next depth read before pairs (Ok pair) all good more =
    more (before ++ pair ∷ []) (pairs-longer depth before pair all good)

pairs-good : (depth : ℕ) (read : Val → ReadPlain)
    → ((value : Val) → IfOk (read value) (Good depth))
    → (before : List PlainPair) (pairs : List Pair)
    → AreGoodPairs depth before
    → IfOk (each_pair read (Ok before) pairs) (AreGoodPairs depth)
pairs-good depth read reads before [] all = all
pairs-good depth read reads before (pair ∷ pairs) all =
    pairs-next depth read before pairs (pair_of read pair) all
    (pair-good depth (read pair.key) (read pair.value) (reads pair.key) (reads pair.value))
    (λ longer good. pairs-good depth read reads longer pairs good)

-- what is inside a container that may be so deep
abbrev Inside : ℕ → List Plain → Type 0
Inside depth values = (all_good (map is_good values) ≡ true)
    × (suc (deepest (map plain_depth values)) ≤ depth)

abbrev InsidePairs : ℕ → List PlainPair → Type 0
InsidePairs depth pairs = (all_good (map is_good_pair pairs) ≡ true)
    × (suc (deepest (map pair_depth pairs)) ≤ depth)

items-deeper : (depth : ℕ) (r : Result (List Plain) NotPlain)
    → IfOk r (AreGood depth)
    → IfOk r (Inside (suc depth))
items-deeper depth (Err bad) h = tt
items-deeper depth (Ok values) h = (h.0, omega (arith, h.1))

pairs-deeper : (depth : ℕ) (r : Result (List PlainPair) NotPlain)
    → IfOk r (AreGoodPairs depth)
    → IfOk r (InsidePairs (suc depth))
pairs-deeper depth (Err bad) h = tt
pairs-deeper depth (Ok pairs) h = (h.0, omega (arith, h.1))

items-level : (depth : ℕ) (r : Result (List Plain) NotPlain)
    → IfOk r (Inside depth)
    → IfOk (items_plain r) (Good depth)
items-level depth (Err bad) h = tt
items-level depth (Ok values) h =
    (good-Items values ∙ h.0, subst (λ n. n ≤ depth) (sym (depth-Items values)) h.1)

pairs-level : (depth : ℕ) (r : Result (List PlainPair) NotPlain)
    → IfOk r (InsidePairs depth)
    → IfOk (pairs_plain r) (Good depth)
pairs-level depth (Err bad) h = tt
pairs-level depth (Ok pairs) h =
    (good-Pairs pairs ∙ h.0, subst (λ n. n ≤ depth) (sym (depth-Pairs pairs)) h.1)

cell-good : (depth : ℕ) (items : List Val → Result (List Plain) NotPlain)
    (pairs : List Pair → Result (List PlainPair) NotPlain)
    → ((inside : List Val) → IfOk (items inside) (Inside depth))
    → ((inside : List Pair) → IfOk (pairs inside) (InsidePairs depth))
    → (one : Option Cell)
    → IfOk (cell_plain items pairs one) (Good depth)
unfolding cell_plain
cell-good depth items pairs of_items of_pairs None = tt
cell-good depth items pairs of_items of_pairs (Some (cell.Text text)) =
    (good-Text text, omega (arith, depth-Text text))
cell-good depth items pairs of_items of_pairs (Some (cell.List inside)) =
    items-level depth (items inside) (of_items inside)
cell-good depth items pairs of_items of_pairs (Some (cell.Tuple inside)) =
    items-level depth (items inside) (of_items inside)
cell-good depth items pairs of_items of_pairs (Some (cell.Dict inside)) =
    pairs-level depth (pairs (map (λ entry. entry.pair) inside))
    (of_pairs (map (λ entry. entry.pair) inside))
cell-good depth items pairs of_items of_pairs (Some (cell.Range first stop step)) = tt
cell-good depth items pairs of_items of_pairs (Some (cell.Function function)) = tt
cell-good depth items pairs of_items of_pairs (Some (cell.Builtin name)) = tt
cell-good depth items pairs of_items of_pairs (Some (cell.Bound receiver method)) = tt
cell-good depth items pairs of_items of_pairs (Some (cell.Struct fields)) = tt
cell-good depth items pairs of_items of_pairs (Some (cell.Label label)) = tt
cell-good depth items pairs of_items of_pairs (Some (cell.Path repo segments)) = tt
cell-good depth items pairs of_items of_pairs (Some (cell.Host kind fields)) = tt

layer-good : (depth : ℕ) (items : List Val → Result (List Plain) NotPlain)
    (pairs : List Pair → Result (List PlainPair) NotPlain)
    → ((inside : List Val) → IfOk (items inside) (Inside depth))
    → ((inside : List Pair) → IfOk (pairs inside) (InsidePairs depth))
    → (heap : HeapState) (value : Val)
    → IfOk (value_layer items pairs heap value) (Good depth)
unfolding value_layer
layer-good depth items pairs of_items of_pairs heap val.None =
    (good-None, omega (arith, depth-None))
layer-good depth items pairs of_items of_pairs heap (val.Bool flag) =
    (good-Flag flag, omega (arith, depth-Flag flag))
layer-good depth items pairs of_items of_pairs heap (val.Int number) =
    cond_both (has_64_bits number) _ _ (λ (r : ReadPlain). IfOk r (Good depth))
    (λ few. (good-Int number ∙ few, omega (arith, depth-Int number))) (λ _. tt)
layer-good depth items pairs of_items of_pairs heap (val.Cell number) =
    cell-good depth items pairs of_items of_pairs (cell_at heap (val.Cell number))

within-good : (depth : ℕ) (heap : HeapState) (value : Val)
    → IfOk (plain_within depth heap value) (Good depth)
unfolding plain_within
within-good zero heap value =
    layer-good zero (λ items. Err not_plain) (λ pairs. Err not_plain) (λ inside. tt) (λ inside. tt)
    heap value
within-good (suc depth) heap value =
    layer-good (suc depth) (each_item (plain_within depth heap) (Ok []))
    (each_pair (plain_within depth heap) (Ok []))
    (λ inside. items-deeper depth _
    (items-good depth (plain_within depth heap) (within-good depth heap) [] inside
    (refl, omega arith)))
    (λ inside. pairs-deeper depth _
    (pairs-good depth (plain_within depth heap) (within-good depth heap) [] inside
    (refl, omega arith)))
    heap value

pub plain_is_good : (heap : HeapState) (value : Val)
    → IfOk (plain_of heap value) (λ one. (is_good one ≡ true) × (plain_depth one ≤ 16))
plain_is_good heap value = within-good 16 heap value
