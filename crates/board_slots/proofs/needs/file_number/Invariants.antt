use Rattle.std.proofs.Common.{◌≡◌, ◌+◌, drop}
use Rattle.std.specs.List.{position_or_len}
use Rattle.board_machine.specs.Moves.{is_file}
use Rattle.board_slots.proofs.needs.file_number.Given as goal

abbrev pub invariant-loop-number : goal.invariant-loop-number
invariant-loop-number l = position_or_len (is_file l.path) l.needs ≡ l.number + position_or_len (is_file l.path) (drop l.number l.needs)
