use Rattle.std.proofs.Common.{◌≡◌, drop}
use Rattle.star_format.specs.Filling.{filled}
use Rattle.star_format.proofs.filling.filled.Given as goal

abbrev pub invariant-filling : goal.invariant-filling
invariant-filling l =
    filled l.heap l.args (drop l.c-index l.pattern) l.now
    ≡ filled l.heap l.args l.pattern l.fn.filling
