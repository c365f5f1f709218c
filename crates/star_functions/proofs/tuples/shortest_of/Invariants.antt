use Rattle.std.proofs.Common.{◌≡◌, drop}
use Rattle.star_functions.specs.Sequences.{shortest_of}
use Rattle.star_functions.proofs.tuples.shortest_of.Given as goal

abbrev pub invariant-comparing : goal.invariant-comparing
invariant-comparing l =
    shortest_of l.least (drop l.items-index l.lists) ≡ shortest_of l.count l.lists
