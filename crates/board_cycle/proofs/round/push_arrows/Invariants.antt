use Rattle.std.proofs.Common.{◌≡◌, ◌++◌, drop, string_bytes}
use Rattle.board_cycle.specs.Arrows.{with_arrows}
use Rattle.board_cycle.proofs.round.push_arrows.Given as goal

abbrev pub invariant-loop-other : goal.invariant-loop-other
invariant-loop-other l =
    string_bytes l.text ++ with_arrows (drop l.other-index l.texts)
    ≡ string_bytes l.fn.text ++ with_arrows l.texts
