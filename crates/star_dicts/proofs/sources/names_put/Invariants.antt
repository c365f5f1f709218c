use Rattle.std.proofs.Common.{◌≡◌, drop}
use Rattle.star_dicts.specs.Sources.{names_put}
use Rattle.star_dicts.proofs.sources.names_put.Given as goal

abbrev pub invariant-putting : goal.invariant-putting
invariant-putting l =
    names_put l.all (drop l.one-index l.named) l.heap ≡ names_put l.fn.entries l.named l.initial.heap
