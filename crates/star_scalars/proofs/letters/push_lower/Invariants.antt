use Rattle.std.proofs.Common.{◌≡◌, ◌++◌, take}
use Rattle.star_scalars.specs.Letters.{lower}
use Rattle.star_scalars.proofs.letters.push_lower.Given as goal

abbrev pub invariant-lowering : goal.invariant-lowering
invariant-lowering l = l.changed.items ≡ l.initial.changed.items ++ lower (take l.c-index l.text)
