use Rattle.star_run.proofs.script.run_file.Given as goal

abbrev pub ghosts-run_counted : goal.ghosts-run_counted
ghosts-run_counted a = record { name = a.ledger.name; parts = a.ledger.parts }
