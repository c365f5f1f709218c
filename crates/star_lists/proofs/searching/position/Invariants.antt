use Rattle.std.proofs.Common.{◌≡◌, ◌≤◌, drop}
use Rattle.star_lists.specs.Searching.{first_equal, shifted}
use Rattle.star_lists.proofs.searching.position.Given as goal
use Rattle.star_order.specs.Equality.{equal}

-- what is found from here on, behind so many others, is what is found in all
abbrev pub invariant-looking : goal.invariant-looking
invariant-looking l =
    (shifted l.index (first_equal (equal l.heap) l.value (drop l.item-index l.items))
    ≡ first_equal (equal l.heap) l.value l.items)
    × (l.index ≤ l.item-index)
