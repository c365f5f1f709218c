use Rattle.std.proofs.Common.{◌≡◌, ◌+◌, ◌<◌, [], ◌∷◌, length, None, ap, sym, ◌∙◌, subst, arith}
use Rattle.std.proofs.Common.{rules}
use Rattle.std.specs.Prelude.{nat_eq, slice_get}
use Rattle.indexmap.specs.IndexSet.{insert_all, insert_key}
use Rattle.index_walks.proofs.Reachings.{AreIndexes, AreIndexes-first, AreIndexes-next}
use Rattle.index_walks.proofs.Reachings.{AreIndexes-within, followed, followed-end, followed-first}
use Rattle.index_walks.proofs.Reachings.{followed-next}
use Rattle.index_walks.specs.Reaching.{links_at}
use Rattle.index_walks.proofs.reaching.walk.Goals as goal

pub walk-init : goal.walk-init
walk-init c =
    let first : c.insert.new.self.keys ≡ 0 ∷ [] = c.in_ok-insert.ensures.keys
    ∙ ap (λ keys. insert_key nat_eq keys 0) c.new-indexes.ensures.empty in (
      ap (λ keys. followed c.args.links.now keys 0) first
          ∙ followed-first c.args.links.now c.requires,
      subst (AreIndexes (length c.args.links.now))
          (sym first) (AreIndexes-first (length c.args.links.now) c.requires),
    )

pub overflow_add-next : goal.overflow_add-next
overflow_add-next c =
    let within : c.walk.next < length c.args.links.now = AreIndexes-within _ c.walk.indexes.keys
    c.walk.next c.in-Some.index c.walk.invariant.1 (sym c.in-Some.ensures) in
    search rules

pub walk-smaller : goal.walk-smaller
walk-smaller c =
    let within : c.walk.next < length c.args.links.now = AreIndexes-within _ c.walk.indexes.keys
    c.walk.next c.in-Some.index c.walk.invariant.1 (sym c.in-Some.ensures) in
    omega arith

pub walk-preserved : goal.walk-preserved
walk-preserved c =
    let within : c.walk.next < length c.args.links.now = AreIndexes-within _ c.walk.indexes.keys
    c.walk.next c.in-Some.index c.walk.invariant.1 (sym c.in-Some.ensures) in
    let more : c.add_links.new.indexes.keys
    ≡ insert_all nat_eq c.walk.indexes.keys (links_at c.args.links.now c.in-Some.index) =
    c.in_ok-add_links.ensures
    in (
      ap (λ keys. followed c.args.links.now keys (c.walk.next + 1)) more
          ∙ sym (followed-next c.args.links.now c.walk.indexes.keys c.walk.next c.in-Some.index (sym
          c.in-Some.ensures) within) ∙ c.walk.invariant.0,
      subst (AreIndexes (length c.args.links.now)) (sym more)
          (AreIndexes-next c.args.links.now c.walk.indexes.keys c.in-Some.index c.walk.invariant.1),
    )

pub returns : goal.returns
returns c =
    let none : slice_get c.walk.indexes.keys c.walk.next ≡ None = search rules in
    sym c.walk.invariant.0 ∙ followed-end c.args.links.now c.walk.indexes.keys c.walk.next none
