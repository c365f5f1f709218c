use Rattle.std.proofs.Common.{◌≡◌, drop}
use Rattle.board_laws.specs.Rounds.{least}
use Rattle.board_cycle.proofs.round.least_text.Given as goal

abbrev pub invariant-loop-text : goal.invariant-loop-text
invariant-loop-text l = least l.least (drop l.text-index l.others) ≡ least l.first l.others
