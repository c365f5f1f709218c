use Rattle.std.proofs.Common.{◌≡◌, ◌∙◌, ap, sym, refl, length, rules, slice_get, slice_set, Some}
use Rattle.std.proofs.lemmas.Option.{slice_get_read}
use Rattle.board_machine.proofs.Slots.{put-set}
use Rattle.board_machine.specs.Boards.{OnFile}
use Rattle.board_slots.proofs.parking.wait_for_file.Goals as goal

pub returns : goal.returns
returns g c =
    let slots = c.args.slots.now.items in
    let here = c.index_mut-slot.result.now in
    let stood : slice_get slots c.args.held.place ≡ Some here =
    slice_get_read slots (length slots) c.args.held.place here refl (search rules)
    c.index_mut-slot.ensures.value in
    ap (slice_set slots c.args.held.place) c.park_on_file.ensures
    ∙ sym (put-set (λ one. record { job = one.job; state = OnFile (g.W.Work.answers_of c.args.part) c.args.need }) slots c.args.held.place here stood)
