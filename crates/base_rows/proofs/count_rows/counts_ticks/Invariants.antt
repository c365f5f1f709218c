use Rattle.base_rows.proofs.count_rows.counts_ticks.Given as goal

abbrev pub ghosts-two_ticks : goal.ghosts-two_ticks
ghosts-two_ticks g a = record { name = a.ledger.name; parts = a.ledger.parts }
