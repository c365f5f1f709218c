use Rattle.std.proofs.Common.{◌≡◌, length}
use Rattle.star_scalars.specs.Letters.{is_one_of, without_front}
use Rattle.star_scalars.proofs.letters.without_front.Given as goal

abbrev pub invariant-leaving : goal.invariant-leaving
invariant-leaving l = without_front (is_one_of l.set) l.rest ≡ without_front (is_one_of l.set) l.text

abbrev pub decreases-leaving : goal.decreases-leaving
decreases-leaving l = length l.rest
