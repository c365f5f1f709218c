use Rattle.std.proofs.Common.{◌≡◌, drop}
use Rattle.std.specs.List.{list_all}
use Rattle.star_scalars.specs.Letters.{is_of}
use Rattle.star_scalars.proofs.letters.are_all.Given as goal

abbrev pub invariant-looking : goal.invariant-looking
invariant-looking l =
    list_all (is_of l.class) (drop l.c-index l.text) ≡ list_all (is_of l.class) l.text
