use Rattle.std.proofs.Common.{◌≡◌, ◌++◌, ◌-◌, map, reverse}
use Rattle.std.specs.Str.{encode_utf8_all}
use Rattle.star_scalars.specs.Pieces.{last_pieces}
use Rattle.star_scalars.proofs.pieces.last_pieces.Given as goal

abbrev pub invariant-cutting : goal.invariant-cutting
invariant-cutting l =
    map encode_utf8_all (last_pieces (l.cuts - l._cut) l.separator l.rest)
    ++ reverse l.made.items
    ≡ map encode_utf8_all (last_pieces l.cuts l.separator l.text)
