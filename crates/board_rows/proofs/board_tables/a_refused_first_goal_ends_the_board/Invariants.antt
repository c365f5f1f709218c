use Rattle.board_rows.proofs.board_tables.a_refused_first_goal_ends_the_board.Given as goal

abbrev pub ghosts-plays : goal.ghosts-plays
ghosts-plays g a = record { name = a.ledger.name; parts = a.ledger.parts }
