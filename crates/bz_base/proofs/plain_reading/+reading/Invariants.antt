use Rattle.std.proofs.Common.{◌≡◌, ◌+◌, ◌*◌, ◌-◌, [], Ok, drop}
use Rattle.serde_json.specs.View.{items_view}
use Rattle.bz_base.specs.PlainReading.{each_after, pair_of, plain_within}
use Rattle.bz_base.proofs.plain_reading.+reading.Given as goal

abbrev pub decreases-value_within : goal.decreases-value_within
decreases-value_within l = 8 * l.depth + 5

abbrev pub decreases-level_within : goal.decreases-level_within
decreases-level_within l = 8 * l.depth + 4

abbrev pub decreases-items_within : goal.decreases-items_within
decreases-items_within l = 8 * l.depth

abbrev pub decreases-object_within : goal.decreases-object_within
decreases-object_within l = 8 * l.depth + 3

abbrev pub decreases-tagged_within : goal.decreases-tagged_within
decreases-tagged_within l = 8 * l.depth + 2

abbrev pub decreases-pairs_value : goal.decreases-pairs_value
decreases-pairs_value l = 8 * l.depth + 1

abbrev pub decreases-pairs_within : goal.decreases-pairs_within
decreases-pairs_within l = 8 * l.depth

abbrev pub decreases-pair_within : goal.decreases-pair_within
decreases-pair_within l = 8 * l.depth + 7

abbrev pub decreases-two_within : goal.decreases-two_within
decreases-two_within l = 8 * l.depth + 6

abbrev pub invariant-items_within-loop-item : goal.invariant-items_within-loop-item
invariant-items_within-loop-item l =
    each_after (plain_within (l.depth - 1)) (Ok l.values.items)
    (items_view (drop l.item-index l.items))
    ≡ each_after (plain_within (l.depth - 1)) (Ok []) (items_view l.items)

abbrev pub invariant-pairs_within-loop-pair : goal.invariant-pairs_within-loop-pair
invariant-pairs_within-loop-pair l =
    each_after (pair_of (plain_within (l.depth - 1))) (Ok l.values.items)
    (items_view (drop l.pair-index l.pairs))
    ≡ each_after (pair_of (plain_within (l.depth - 1))) (Ok []) (items_view l.pairs)
