use Rattle.std.proofs.Common.{◌≡◌, ◌++◌, ◌-◌, map}
use Rattle.star_core.specs.declared.values.Val.TheVariants.{Int}
use Rattle.star_library.specs.Ranges.{range_items, range_length}
use Rattle.star_library.proofs.ranges.range_values.Given as goal

-- the values so far and those from the next number on are all; so many are left as a range from the
-- next number on has
abbrev pub invariant-stepping : goal.invariant-stepping
invariant-stepping l =
    (l.values.items ++ map Int (range_items l.number l.stop l.step)
    ≡ map Int (range_items l.first l.stop l.step))
    × (range_length l.number l.stop l.step
    ≡ range_length l.first l.stop l.step - l._turn)
