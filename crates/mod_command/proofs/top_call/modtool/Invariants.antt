use Rattle.mod_command.proofs.top_call.modtool.Given as goal

abbrev pub ghosts-count_and_run : goal.ghosts-count_and_run
ghosts-count_and_run g a = record { name = a.ledger.name; parts = a.ledger.parts }
