use Rattle.board_rows.proofs.board_tables.two_goals_that_ask_one_another.Given as goal

abbrev pub ghosts-plays : goal.ghosts-plays
ghosts-plays g a = record { name = a.ledger.name; parts = a.ledger.parts }
