use Rattle.std.proofs.Common.{◌≡◌, ◌++◌, take}
use Rattle.bz_base.proofs.plain_equality.+equality.Given as goal

abbrev pub invariant-items_equal-loop-item : goal.invariant-items_equal-loop-item
invariant-items_equal-loop-item l = l.right ≡ take l.item-index l.left ++ l.rest

abbrev pub invariant-pairs_equal-loop-pair : goal.invariant-pairs_equal-loop-pair
invariant-pairs_equal-loop-pair l = l.right ≡ take l.pair-index l.left ++ l.rest
