use Rattle.std.proofs.Common.{◌≡◌, ◌∙◌, ◌∷◌, ap, sym, refl, length, rules, slice_get, slice_set, Some}
use Rattle.std.proofs.lemmas.Option.{slice_get_read}
use Rattle.board_machine.proofs.Slots.{put-set}
use Rattle.board_machine.specs.Boards.{Queued}
use Rattle.board_work.specs.Turns.{answer_of}
use Rattle.board_slots.proofs.parking.queue_at.Goals as goal

pub returns : goal.returns
returns g c =
    let slots = c.args.slots.now.items in
    let here = c.index_mut-slot.result.now in
    let stood : slice_get slots c.args.held.place ≡ Some here =
    slice_get_read slots (length slots) c.args.held.place here refl (search rules)
    c.index_mut-slot.ensures.value in
    ap (slice_set slots c.args.held.place) c.queue.ensures
    ∙ sym (put-set (λ one. record { job = one.job; state = Queued (answer_of c.args.given ∷ g.W.Work.answers_of c.args.part) }) slots c.args.held.place here stood)
