use Rattle.std.proofs.Common.{◌≡◌, ◌++◌, ◌-◌, map}
use Rattle.std.specs.Str.{encode_utf8_all}
use Rattle.star_scalars.specs.Lines.{scalar_pieces}
use Rattle.star_scalars.proofs.lines.scalar_pieces.Given as goal

abbrev pub invariant-cutting : goal.invariant-cutting
invariant-cutting l =
    l.made.items ++ map encode_utf8_all (scalar_pieces (l.cuts - l._cut) l.rest)
    ≡ l.fn.before.items ++ map encode_utf8_all (scalar_pieces l.cuts l.text)
