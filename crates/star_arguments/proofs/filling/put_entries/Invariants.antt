use Rattle.std.proofs.Common.{◌≡◌, drop}
use Rattle.star_meaning.specs.Parameters.{entries_put}
use Rattle.star_arguments.proofs.filling.put_entries.Given as goal

abbrev pub invariant-putting : goal.invariant-putting
invariant-putting g l =
    entries_put g.L.Library.rows l.dict (drop l.one-index l.named) l.heap
    ≡ entries_put g.L.Library.rows l.dict l.named l.initial.heap
