use Rattle.std.proofs.Common.{◌≡◌, ◌+◌, drop}
use Rattle.std.specs.List.{position_or_len}
use Rattle.board_slots.specs.Needs.{is_open}
use Rattle.board_slots.proofs.needs.first_open.Given as goal

abbrev pub invariant-loop-number : goal.invariant-loop-number
invariant-loop-number l = position_or_len is_open l.needs ≡ l.number + position_or_len is_open (drop l.number l.needs)
