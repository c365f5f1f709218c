use Rattle.std.proofs.Common.{◌≡◌, ◌-◌, length}
use Rattle.star_format.specs.Formats.{formatted_within}
use Rattle.star_format.proofs.formatting.filled_pieces.Given as goal

abbrev pub invariant-filling : goal.invariant-filling
invariant-filling l =
    formatted_within (length l.pattern - l._turn) l.heap l.args l.rest l.now
    ≡ formatted_within (length l.pattern) l.heap l.args l.pattern l.fn.start
