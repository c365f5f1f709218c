use Rattle.star_scalars.specs.Searches.{last_index}
use Rattle.star_text_laws.proofs.Lasts.{last_greatest, last_parted}
use Rattle.star_text_laws.proofs.laws.a_text_is_cut_at_the_last_place.Goals as goal

pub returns : goal.returns
returns c =
    λ separator text some.
    last_parted separator text (last_index separator text) some (last_greatest separator text)
