use Rattle.std.proofs.Common.{length}
use Rattle.star_statements.proofs.SliceTexts.{Taken}
use Rattle.star_statements.proofs.text_symbols.symbols_of.Given as goal

abbrev pub invariant-turns : goal.invariant-turns
invariant-turns l = Taken l.text l.fn.tokens l.symbols.items l.rest

abbrev pub decreases-turns : goal.decreases-turns
decreases-turns l = length l.rest
