use Rattle.std.proofs.Common.{◌∙◌, ◌++◌, ap, take, string_bytes}
use Rattle.std.proofs.lemmas.List.{take_rest}
use Rattle.board_cycle.specs.Arrows.{with_arrows}
use Rattle.board_cycle.proofs.Rounds.{round_is}
use Rattle.board_cycle.proofs.round.push_round.Goals as goal

pub returns : goal.returns
returns c =
    let first = c.args.first.now in
    let texts = c.args.texts.now in
    let place = c.place_of-place.result in
    c.in_ok-push_str.ensures.bytes
    ∙ ap (λ t. t ++ first) (c.in_ok-push_arrows-2.ensures
    ∙ ap (λ t. t ++ with_arrows (take place texts)) (c.in_ok-push_arrows.ensures
    ∙ ap (λ xs. string_bytes c.args.text.now ++ with_arrows xs) (take_rest texts place)))
    ∙ round_is first texts place c.place_of-place.ensures.place (string_bytes c.args.text.now)
