use Rattle.star_statements.proofs.files.+nested_statements.Given as goal

abbrev pub decreases-nested_statements : goal.decreases-nested_statements
decreases-nested_statements l = l.nesting
