use Rattle.std.proofs.Common.{◌≡◌, drop, map}
use Rattle.star_core.specs.LibraryNames.{is_among}
use Rattle.star_machine.proofs.attributes.is_among.Given as goal

abbrev pub invariant-loop-other : goal.invariant-loop-other
invariant-loop-other l =
    is_among l.name (map (λ other. other.now) (drop l.other-index l.names))
    ≡ is_among l.name (map (λ other. other.now) l.names)
