use Rattle.std.proofs.Common.{◌≡◌, ◌++◌, drop}
use Rattle.star_containers.specs.Slicing.{items_numbered}
use Rattle.star_containers.proofs.slicing.items_at.Given as goal

abbrev pub invariant-finding : goal.invariant-finding
invariant-finding g l =
    l.found.items ++ items_numbered l.items (drop l.index-index l.indexes)
    ≡ items_numbered l.items l.indexes
