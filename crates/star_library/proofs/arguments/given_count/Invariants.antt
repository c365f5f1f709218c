use Rattle.std.proofs.Common.{◌≡◌, ◌≤◌, ◌+◌, drop}
use Rattle.star_library.specs.Arguments.{given_count}
use Rattle.star_library.proofs.arguments.given_count.Given as goal

abbrev pub invariant-counting : goal.invariant-counting
invariant-counting l =
    (l.count + given_count (drop l.value-index l.values) ≡ given_count l.values)
    × (l.count ≤ l.value-index)
