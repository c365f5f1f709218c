use Rattle.std.proofs.Common.{◌≡◌, length}
use Rattle.star_meaning.specs.Arguments.{names_differ}
use Rattle.star_arguments.proofs.gathering.names_differ.Given as goal

abbrev pub invariant-looking : goal.invariant-looking
invariant-looking l = names_differ l.rest ≡ names_differ l.named

abbrev pub decreases-looking : goal.decreases-looking
decreases-looking l = length l.rest
