use Rattle.board_rows.proofs.board_tables.random_steps_in_a_cycle.Given as goal

abbrev pub ghosts-plays_alike : goal.ghosts-plays_alike
ghosts-plays_alike g a = record { name = a.ledger.name; parts = a.ledger.parts }
