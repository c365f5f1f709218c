use Rattle.star_machine.specs.Configs.{config_of}
use Rattle.star_runs.specs.Runs.{Follows}
use Rattle.star_turn.proofs.turns.turn.Given as goal

abbrev pub invariant-steps : goal.invariant-steps
invariant-steps g l =
    Follows g.H.Host.meaning g.L.Library.rows l.codes l.answers
    (config_of l.codes l.fn.machine) l.fn.host (config_of l.codes l.machine) l.host
