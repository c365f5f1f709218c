use Rattle.std.proofs.Common.{◌≡◌, ◌+◌, ◌<◌, [], ◌∷◌, length, None, ap, sym, ◌∙◌, subst, arith}
use Rattle.std.proofs.Common.{rules}
use Rattle.std.specs.Prelude.{nat_eq, slice_get}
use Rattle.indexmap.specs.IndexSet.{insert_all, insert_key}
use Rattle.selection.proofs.SelectionWalks.{AreIndexes, AreIndexes-first, AreIndexes-next}
use Rattle.selection.proofs.SelectionWalks.{AreIndexes-within, reached, reached-end, reached-first}
use Rattle.selection.proofs.SelectionWalks.{reached-next}
use Rattle.selection.specs.Selection.{chosen_at}
use Rattle.selection.proofs.selection.indexes.Goals as goal

pub walk-init : goal.walk-init
walk-init c =
    let first : c.insert.new.self.keys ≡ 0 ∷ [] = c.in_ok-insert.ensures.keys
    ∙ ap (λ keys. insert_key nat_eq keys 0) c.new-indexes.ensures.empty in (
      ap (λ keys. reached c.args.nodes.now keys 0) first
          ∙ reached-first c.args.nodes.now c.requires.some,
      subst (AreIndexes (length c.args.nodes.now))
          (sym first) (AreIndexes-first (length c.args.nodes.now) c.requires.some),
    )

pub overflow_add-next : goal.overflow_add-next
overflow_add-next c =
    let within : c.walk.next < length c.args.nodes.now = AreIndexes-within _ c.walk.indexes.keys
    c.walk.next c.in-Some.index c.walk.invariant.1 (sym c.in-Some.ensures) in
    search rules

pub walk-smaller : goal.walk-smaller
walk-smaller c =
    let within : c.walk.next < length c.args.nodes.now = AreIndexes-within _ c.walk.indexes.keys
    c.walk.next c.in-Some.index c.walk.invariant.1 (sym c.in-Some.ensures) in
    omega arith

pub walk-preserved : goal.walk-preserved
walk-preserved c =
    let within : c.walk.next < length c.args.nodes.now = AreIndexes-within _ c.walk.indexes.keys
    c.walk.next c.in-Some.index c.walk.invariant.1 (sym c.in-Some.ensures) in
    let more : c.add_each.new.indexes.keys
    ≡ insert_all nat_eq c.walk.indexes.keys (chosen_at c.args.nodes.now c.in-Some.index) =
    c.in_ok-add_each.ensures
    ∙ ap (insert_all nat_eq c.walk.indexes.keys)
    (c.as_slice.ensures.value ∙ c.in_ok-chosen.ensures) in (
      ap (λ keys. reached c.args.nodes.now keys (c.walk.next + 1)) more
          ∙ sym (reached-next c.args.nodes.now c.walk.indexes.keys c.walk.next c.in-Some.index (sym
          c.in-Some.ensures) within) ∙ c.walk.invariant.0,
      subst (AreIndexes (length c.args.nodes.now)) (sym more)
          (AreIndexes-next c.args.nodes.now c.walk.indexes.keys c.in-Some.index c.walk.invariant.1),
    )

pub returns : goal.returns
returns c =
    let none : slice_get c.walk.indexes.keys c.walk.next ≡ None = search rules in
    sym c.walk.invariant.0 ∙ reached-end c.args.nodes.now c.walk.indexes.keys c.walk.next none
