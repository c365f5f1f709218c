use Rattle.std.proofs.Common.{◌≡◌, ap, sym, ◌∙◌, refl, length, slice_get, slice_set, Some, rules}
use Rattle.std.proofs.lemmas.Option.{slice_get_read}
use Rattle.std.specs.Arc.{arc_value}
use Rattle.board_machine.proofs.Slots.{put-set}
use Rattle.board_machine.specs.Moves.{filled}
use Rattle.board_slots.proofs.needs.answer.Goals as goal

pub returns : goal.returns
returns c =
    let need = c.index_mut-need.result.now in
    let needs = c.args.needs.now.items in
    let stood : slice_get needs c.args.number ≡ Some need =
    slice_get_read needs (length needs) c.args.number need refl (search rules)
    c.index_mut-need.ensures.value in
    ap (slice_set needs c.args.number) c.fill.ensures
    ∙ sym (put-set (filled (arc_value c.args.found)) needs c.args.number need stood)
