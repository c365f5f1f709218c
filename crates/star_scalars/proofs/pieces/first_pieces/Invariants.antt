use Rattle.std.proofs.Common.{◌≡◌, ◌++◌, ◌-◌, map}
use Rattle.std.specs.Str.{encode_utf8_all}
use Rattle.star_scalars.specs.Pieces.{first_pieces}
use Rattle.star_scalars.proofs.pieces.first_pieces.Given as goal

abbrev pub invariant-cutting : goal.invariant-cutting
invariant-cutting l =
    l.made.items ++ map encode_utf8_all (first_pieces (l.cuts - l._cut) l.separator l.rest)
    ≡ map encode_utf8_all (first_pieces l.cuts l.separator l.text)
