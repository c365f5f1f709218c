use Rattle.std.proofs.Common.{◌≡◌, drop}
use Rattle.star_text.specs.Answers.{items_behind}
use Rattle.star_text.proofs.answers.items_behind.Given as goal

abbrev pub invariant-joining : goal.invariant-joining
invariant-joining l =
    items_behind l.heap l.separator (drop l.item-index l.items) l.whole
    ≡ items_behind l.heap l.separator l.items l.fn.text
