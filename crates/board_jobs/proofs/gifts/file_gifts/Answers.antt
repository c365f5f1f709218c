use Rattle.std.proofs.Common.{◌≡◌, ◌∷◌, ◌++◌, [], Some, ap, refl, sym, subst, ◌∙◌, drop}
use Rattle.board_jobs.specs.Indexes.{Has}
use Rattle.std.specs.Arc.{arc_value}
use Rattle.std.proofs.lemmas.List.{drop_more}
use Rattle.board_jobs.proofs.Handing.{all_reading, file_first, file_made, file_more, drop-past}
use Rattle.board_jobs.proofs.gifts.file_gifts.Goals as goal

pub loop-at-init : goal.loop-at-init
loop-at-init g c =
    file_first c.args.slots.now c.args.need (arc_value c.args.found.now)
    c.reading-reading.result.now _ c.new-gifts.ensures.items
    (λ k passes. subst (λ ns. Has k ns) (sym c.reading-reading.ensures)
    (all_reading c.args.slots.now c.args.index.now c.args.need c.requires k passes))

pub loop-at-preserved : goal.loop-at-preserved
loop-at-preserved g c =
    file_more c.args.slots.now c.args.need (arc_value c.args.found.now)
    c.reading-reading.result.now c.loop-at.at-index _ c.loop-at.gifts.items
    c.add_reader.new.gifts.items
    (drop_more c.reading-reading.result.now c.loop-at.at-index 0 c.loop-at-test.true)
    c.in_ok-add_reader.ensures c.loop-at.invariant

pub returns : goal.returns
returns g c =
    file_made c.args.slots.now c.args.need (arc_value c.args.found.now)
    (drop c.loop-at.at-index c.reading-reading.result.now) c.loop-at.gifts.items
    (drop-past c.loop-at.at-index c.reading-reading.result.now c.loop-at-test.false)
    c.loop-at.invariant
