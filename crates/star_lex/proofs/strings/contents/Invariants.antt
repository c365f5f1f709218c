use Rattle.std.proofs.Common.{length}
use Rattle.star_lex.proofs.StringContents.{Continues}
use Rattle.star_lex.proofs.strings.contents.Given as goal

-- whatever completes the rest completes the whole, and whatever reads the whole goes through what
-- is out so far
abbrev pub invariant-items : goal.invariant-items
invariant-items l = Continues l.style l.text l.value.items l.rest

abbrev pub decreases-items : goal.decreases-items
decreases-items l = length l.rest
