use Rattle.std.proofs.Common.{◌≤◌, length}
use Rattle.mod_command.proofs.Pieces.{IsSplitWritten}
use Rattle.mod_command.proofs.writing.write_all.Given as goal

-- the front that was written and the rest are all of the bytes
abbrev pub invariant-pieces : goal.invariant-pieces
invariant-pieces g l =
    IsSplitWritten (g.S.Sink.written l.initial.sink) l.bytes l.rest (g.S.Sink.written l.sink)
    × (g.S.Sink.faults l.initial.sink ≤ g.S.Sink.faults l.sink)

abbrev pub decreases-pieces : goal.decreases-pieces
decreases-pieces g l = length l.rest
