use Rattle.std.proofs.Common.{◌≡◌, drop}
use Rattle.std.specs.Prelude.{nat_eq}
use Rattle.indexmap.specs.IndexSet.{insert_all}
use Rattle.selection.proofs.selection.add_each.Given as goal

abbrev pub invariant-loop-index : goal.invariant-loop-index
invariant-loop-index l =
    insert_all nat_eq l.indexes.keys (drop l.index-index l.more)
    ≡ insert_all nat_eq l.initial.indexes.keys l.more
