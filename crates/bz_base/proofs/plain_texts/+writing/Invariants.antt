use Rattle.std.proofs.Common.{◌≡◌, map, take}
use Rattle.serde_json.specs.View.{view}
use Rattle.bz_base.specs.PlainTexts.{json_of, json_of_pair}
use Rattle.bz_base.proofs.plain_texts.+writing.Given as goal

abbrev pub invariant-item_values-loop-item : goal.invariant-item_values-loop-item
invariant-item_values-loop-item l = map view l.values.items
    ≡ map json_of (take l.item-index l.items)

abbrev pub invariant-pair_values-loop-pair : goal.invariant-pair_values-loop-pair
invariant-pair_values-loop-pair l = map view l.values.items
    ≡ map json_of_pair (take l.pair-index l.pairs)
