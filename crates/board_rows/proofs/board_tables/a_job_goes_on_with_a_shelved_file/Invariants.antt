use Rattle.board_rows.proofs.board_tables.a_job_goes_on_with_a_shelved_file.Given as goal

abbrev pub ghosts-plays : goal.ghosts-plays
ghosts-plays g a = record { name = a.ledger.name; parts = a.ledger.parts }
