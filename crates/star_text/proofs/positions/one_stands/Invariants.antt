use Rattle.std.proofs.Common.{◌≡◌, drop, false}
use Rattle.star_text.specs.Positions.{one_stands}
use Rattle.star_text.proofs.positions.one_stands.Given as goal

abbrev pub invariant-looking : goal.invariant-looking
invariant-looking l =
    one_stands l.at l.heap l.text l.flag (drop l.item-index l.items)
    ≡ one_stands l.at l.heap l.text false l.items
