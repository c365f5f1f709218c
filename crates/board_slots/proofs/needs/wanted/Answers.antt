use Rattle.std.proofs.Common.{length, refl}
use Rattle.std.proofs.lemmas.Option.{slice_get_read}
use Rattle.board_slots.proofs.Opens.{none_open, numbered_open}
use Rattle.board_slots.proofs.needs.wanted.Goals as goal

pub returns-in-Some : goal.returns-in-Some
returns-in-Some c =
    let needs = c.args.needs.now in
    numbered_open needs c.first_open-number.result c.in-Some.need.now c.open_path.result
    c.numbered.result c.first_open-number.ensures
    (slice_get_read needs (length needs) c.first_open-number.result c.in-Some.need.now refl
    c.in-Some.ensures.lookup.3.0 c.in-Some.ensures.lookup.1)
    c.open_path.ensures c.numbered.ensures

pub returns-in-None : goal.returns-in-None
returns-in-None c =
    none_open c.args.needs.now c.first_open-number.result c.first_open-number.ensures
    c.in-None.ensures.lookup.3
