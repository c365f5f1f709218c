use Rattle.std.proofs.Common.{◌≡◌, ◌++◌, drop}
use Rattle.star_scalars.specs.Letters.{title, title_behind}
use Rattle.star_scalars.proofs.letters.title.Given as goal

abbrev pub invariant-casing : goal.invariant-casing
invariant-casing l =
    l.changed.items ++ title_behind l.behind (drop l.c-index l.text) ≡ title l.text
