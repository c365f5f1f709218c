use Rattle.std.proofs.Common.{◌≡◌, ◌++◌, ◌-◌, length, map}
use Rattle.std.specs.Str.{encode_utf8_all}
use Rattle.star_scalars.specs.Lines.{lines, lines_within}
use Rattle.star_scalars.proofs.lines.split_lines.Given as goal

abbrev pub invariant-cutting : goal.invariant-cutting
invariant-cutting l =
    l.made.items ++ map encode_utf8_all (lines_within (length l.text - l._line) l.keep l.rest)
    ≡ map encode_utf8_all (lines l.keep l.text)
