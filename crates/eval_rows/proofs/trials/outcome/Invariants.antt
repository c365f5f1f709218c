use Rattle.eval_rows.proofs.trials.outcome.Given as goal

abbrev pub ghosts-outcome_on : goal.ghosts-outcome_on
ghosts-outcome_on a = record { name = a.ledger.name; parts = a.ledger.parts }
