use Rattle.std.proofs.Common.{◌≡◌, drop}
use Rattle.std.specs.Prelude.{nat_eq, nat_lt, filter}
use Rattle.indexmap.specs.IndexSet.{insert_all}
use Rattle.index_walks.proofs.reaching.add_each.Given as goal

-- the indexes so far with those that are left
abbrev pub invariant-loop-index : goal.invariant-loop-index
invariant-loop-index l =
    insert_all nat_eq l.indexes.keys
    (filter (λ other. nat_lt other l.count) (drop l.index-index l.more))
    ≡ insert_all nat_eq l.initial.indexes.keys (filter (λ other. nat_lt other l.count) l.more)
