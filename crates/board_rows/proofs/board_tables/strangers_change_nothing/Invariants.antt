use Rattle.board_rows.proofs.board_tables.strangers_change_nothing.Given as goal

abbrev pub ghosts-plays : goal.ghosts-plays
ghosts-plays g a = record { name = a.ledger.name; parts = a.ledger.parts }
