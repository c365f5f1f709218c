use Rattle.std.proofs.Common.{length}
use Rattle.star_lex.proofs.ScanLaws.{Scans}
use Rattle.star_lex.proofs.scan.tokens.Given as goal

-- whatever completes the rest completes the whole, and whatever reads the whole goes through the
-- layout so far
abbrev pub invariant-lexemes : goal.invariant-lexemes
invariant-lexemes l = Scans l.text l.layout l.rest

abbrev pub decreases-lexemes : goal.decreases-lexemes
decreases-lexemes l = length l.rest
