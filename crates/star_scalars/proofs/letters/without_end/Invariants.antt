use Rattle.std.proofs.Common.{◌≡◌, length}
use Rattle.star_scalars.specs.Letters.{is_one_of, without_end}
use Rattle.star_scalars.proofs.letters.without_end.Given as goal

abbrev pub invariant-leaving : goal.invariant-leaving
invariant-leaving l = without_end (is_one_of l.set) l.rest ≡ without_end (is_one_of l.set) l.text

abbrev pub decreases-leaving : goal.decreases-leaving
decreases-leaving l = length l.rest
