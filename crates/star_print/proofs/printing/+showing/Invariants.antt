use Rattle.std.proofs.Common.{◌≡◌, ◌+◌, ◌*◌, drop}
use Rattle.star_print.specs.Prints.{pieces_behind, repr_within}
use Rattle.star_print.proofs.printing.«+showing».Given as goal

abbrev pub decreases-pieces_behind : goal.decreases-pieces_behind
decreases-pieces_behind l = 8 * l.depth + 4

abbrev pub decreases-piece_within : goal.decreases-piece_within
decreases-piece_within l = 8 * l.depth + 3

abbrev pub decreases-repr_within : goal.decreases-repr_within
decreases-repr_within l = 8 * l.depth + 2

abbrev pub decreases-container_within : goal.decreases-container_within
decreases-container_within l = 8 * l.depth + 1

abbrev pub decreases-pieces_within : goal.decreases-pieces_within
decreases-pieces_within l = 8 * l.depth

abbrev pub invariant-pieces_behind-writing : goal.invariant-pieces_behind-writing
invariant-pieces_behind-writing l =
    pieces_behind (repr_within l.depth l.heap) (drop l.piece-index l.pieces) l.written
    ≡ pieces_behind (repr_within l.depth l.heap) l.pieces l.fn.text
