use Rattle.star_sorting.specs.Sorting.{comes_before}
use Rattle.star_sorting_laws.proofs.Permutations.{within_permutes}
use Rattle.star_sorting_laws.proofs.laws.sorting_permutes.Goals as goal

pub returns : goal.returns
returns c = λ heap way pairs. within_permutes 64 (comes_before heap way) pairs
