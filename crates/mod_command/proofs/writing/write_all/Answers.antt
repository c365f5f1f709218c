use Rattle.std.proofs.Common.{arith, drop}
use Rattle.mod_command.proofs.Pieces.{IsSplitWritten, IsSplitWritten-more}
use Rattle.mod_command.proofs.writing.write_all.Goals as goal

pub pieces-preserved : goal.pieces-preserved
pieces-preserved g c =
    let more : IsSplitWritten (g.S.Sink.written c.args.sink.now) c.args.bytes.now
    (drop c.in_ok-taken.taken c.pieces.rest.now)
    (g.S.Sink.written c.write.new.self) = IsSplitWritten-more c.in_ok-taken.taken
    c.pieces.invariant.0 (c.in_ok-taken.ensures.appended) in (
      rw c.split_at.ensures.back more,
      omega
          (arith, c.pieces.invariant.1, c.write.ensures.count_never_falls),
    )
