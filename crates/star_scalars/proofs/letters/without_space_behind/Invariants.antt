use Rattle.std.proofs.Common.{◌≡◌, length}
use Rattle.star_scalars.specs.Letters.{is_space, without_end}
use Rattle.star_scalars.proofs.letters.without_space_behind.Given as goal

abbrev pub invariant-leaving : goal.invariant-leaving
invariant-leaving l = without_end is_space l.rest ≡ without_end is_space l.text

abbrev pub decreases-leaving : goal.decreases-leaving
decreases-leaving l = length l.rest
