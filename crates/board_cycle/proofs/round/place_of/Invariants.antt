use Rattle.std.proofs.Common.{◌≡◌, ◌+◌, drop}
use Rattle.std.specs.List.{position_or_len}
use Rattle.std.specs.Str.{bytes_eq}
use Rattle.board_cycle.proofs.round.place_of.Given as goal

abbrev pub invariant-loop-place : goal.invariant-loop-place
invariant-loop-place l =
    position_or_len (bytes_eq l.text) l.texts
    ≡ l.place + position_or_len (bytes_eq l.text) (drop l.place l.texts)
