use Rattle.std.proofs.Common.{◌≡◌, take}
use Rattle.bz_base.proofs.plain_copies.+copying.Given as goal

abbrev pub invariant-items_copy-loop-item : goal.invariant-items_copy-loop-item
invariant-items_copy-loop-item l = l.copies.items ≡ take l.item-index l.items

abbrev pub invariant-pairs_copy-loop-pair : goal.invariant-pairs_copy-loop-pair
invariant-pairs_copy-loop-pair l = l.copies.items ≡ take l.pair-index l.pairs
