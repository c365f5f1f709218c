use Rattle.std.proofs.Common.{◌≡◌}
use Rattle.star_operators.specs.Binary.{times}
use Rattle.star_operators.proofs.repeating.times_items.Given as goal

abbrev pub invariant-repeating : goal.invariant-repeating
invariant-repeating l = l.made.items ≡ times l.turn l.items
