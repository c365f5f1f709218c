use Rattle.std.proofs.Common.{◌+◌, ◌∷◌, drop, map}
use Rattle.std.proofs.lemmas.List.{drop_more}
use Rattle.board_machine.specs.Boards.{jobs_at}
use Rattle.board_slots.proofs.CycleTexts.{texts_next}
use Rattle.board_slots.proofs.jobs.texts_at.Goals as goal

pub loop-place-preserved : goal.loop-place-preserved
loop-place-preserved g c =
    let text = (g.W.Work.meaning c.args.work.now).text in
    let places = c.args.places.now in
    let at = c.loop-place.place-index in
    texts_next text c.args.slots.now _ (drop at places) (drop (at + 1) places)
    c.loop-place.texts.items c.push_text.new.texts.items
    (map text (c.args.job.now ∷ jobs_at c.args.slots.now places)) c.in_ok-push_text.ensures
    (drop_more places at 0 c.loop-place-test.true)
    c.loop-place.invariant
