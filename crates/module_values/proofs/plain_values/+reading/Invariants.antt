use Rattle.std.proofs.Common.{◌≡◌, ◌+◌, ◌*◌, ◌-◌, [], Ok, drop}
use Rattle.module_values.specs.PlainValues.{each_item, each_pair, plain_within}
use Rattle.module_values.proofs.plain_values.+reading.Given as goal

abbrev pub decreases-value_within : goal.decreases-value_within
decreases-value_within l = 8 * l.depth + 5

abbrev pub decreases-layer_within : goal.decreases-layer_within
decreases-layer_within l = 8 * l.depth + 4

abbrev pub decreases-cell_within : goal.decreases-cell_within
decreases-cell_within l = 8 * l.depth + 3

abbrev pub decreases-each_item : goal.decreases-each_item
decreases-each_item l = 8 * l.depth

abbrev pub decreases-each_pair : goal.decreases-each_pair
decreases-each_pair l = 8 * l.depth

abbrev pub decreases-dict_within : goal.decreases-dict_within
decreases-dict_within l = 8 * l.depth + 1

abbrev pub decreases-pair_within : goal.decreases-pair_within
decreases-pair_within l = 8 * l.depth + 6

abbrev pub invariant-each_item-reading : goal.invariant-each_item-reading
invariant-each_item-reading l =
    each_item (plain_within (l.depth - 1) l.heap) (Ok l.values.items) (drop l.item-index l.items)
    ≡ each_item (plain_within (l.depth - 1) l.heap) (Ok []) l.items

abbrev pub invariant-each_pair-reading : goal.invariant-each_pair-reading
invariant-each_pair-reading l =
    each_pair (plain_within (l.depth - 1) l.heap) (Ok l.values.items) (drop l.pair-index l.pairs)
    ≡ each_pair (plain_within (l.depth - 1) l.heap) (Ok []) l.pairs
