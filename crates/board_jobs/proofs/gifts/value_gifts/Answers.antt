use Rattle.std.proofs.Common.{◌≡◌, ◌∷◌, ◌++◌, [], Some, ap, refl, sym, subst, ◌∙◌, drop}
use Rattle.board_jobs.specs.Indexes.{Has}
use Rattle.std.specs.Arc.{arc_value}
use Rattle.std.proofs.lemmas.List.{drop_more}
use Rattle.board_jobs.proofs.Handing.{all_waiting, value_first, value_made, value_more, drop-past}
use Rattle.board_jobs.proofs.gifts.value_gifts.Goals as goal

pub loop-at-init : goal.loop-at-init
loop-at-init g c =
    value_first c.args.slots.now c.args.place (arc_value c.args.value.now)
    c.waiting-waiting.result.now _ c.add_value.new.gifts.items c.new-gifts.ensures.items
    c.in_ok-add_value.ensures
    (λ k passes. subst (λ ns. Has k ns) (sym c.waiting-waiting.ensures)
    (all_waiting c.args.slots.now c.args.index.now c.args.place c.requires k passes))

pub loop-at-preserved : goal.loop-at-preserved
loop-at-preserved g c =
    value_more c.args.slots.now c.args.place (arc_value c.args.value.now)
    c.waiting-waiting.result.now c.loop-at.at-index _ c.loop-at.gifts.items
    c.add_waiter.new.gifts.items
    (drop_more c.waiting-waiting.result.now c.loop-at.at-index 0 c.loop-at-test.true)
    c.in_ok-add_waiter.ensures c.loop-at.invariant

pub returns : goal.returns
returns g c =
    value_made c.args.slots.now c.args.place (arc_value c.args.value.now)
    (drop c.loop-at.at-index c.waiting-waiting.result.now) c.loop-at.gifts.items
    (drop-past c.loop-at.at-index c.waiting-waiting.result.now c.loop-at-test.false)
    c.loop-at.invariant
