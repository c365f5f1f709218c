use Rattle.std.proofs.Common.{◌≡◌, drop}
use Rattle.star_dicts.specs.Sources.{items_put}
use Rattle.star_dicts.proofs.sources.items_put.Given as goal

abbrev pub invariant-putting : goal.invariant-putting
invariant-putting l =
    items_put l.heap l.all (drop l.item-index l.items) ≡ items_put l.heap l.fn.entries l.items
