use Rattle.std.proofs.Common.{◌≡◌, ◌∙◌, sym, ap, nat_cmp}
use Rattle.std.specs.Cmp.Lexicographic.{slice_cmp}
use Rattle.board_cycle.proofs.Rounds.{lesser_if_greater, lesser_if_not}
use Rattle.board_cycle.proofs.round.lesser.Goals as goal

pub returns-in-Greater : goal.returns-in-Greater
returns-in-Greater c =
    let order : c.cmp.result ≡ slice_cmp nat_cmp c.args.one.now c.args.other.now =
    c.cmp.ensures
    ∙ ap (λ xs. slice_cmp nat_cmp xs c.as_bytes-2.result.now) (c.as_bytes.ensures.value ∙ c.as_str.ensures)
    ∙ ap (slice_cmp nat_cmp c.args.one.now) (c.as_bytes-2.ensures.value ∙ c.as_str-2.ensures) in
    sym (lesser_if_greater c.args.one.now c.args.other.now (sym order ∙ c.in-Greater.is))

pub returns-in_default : goal.returns-in_default
returns-in_default c =
    let order : c.cmp.result ≡ slice_cmp nat_cmp c.args.one.now c.args.other.now =
    c.cmp.ensures
    ∙ ap (λ xs. slice_cmp nat_cmp xs c.as_bytes-2.result.now) (c.as_bytes.ensures.value ∙ c.as_str.ensures)
    ∙ ap (slice_cmp nat_cmp c.args.one.now) (c.as_bytes-2.ensures.value ∙ c.as_str-2.ensures) in
    sym (lesser_if_not c.args.one.now c.args.other.now c.cmp.result order c.in_default.not-Greater)
