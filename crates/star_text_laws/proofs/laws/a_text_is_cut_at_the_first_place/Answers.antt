use Rattle.star_scalars.specs.Searches.{first_index}
use Rattle.star_text_laws.proofs.Firsts.{first_least, first_parted}
use Rattle.star_text_laws.proofs.laws.a_text_is_cut_at_the_first_place.Goals as goal

pub returns : goal.returns
returns c =
    λ separator text some.
    first_parted separator text (first_index separator text) some (first_least separator text)
