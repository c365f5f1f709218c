use Rattle.std.proofs.Common.{◌≡◌, ◌∙◌, arith, length, sym}
use Rattle.std.proofs.lemmas.Bool.Decides.{nat_tests}
use Rattle.star_operators.proofs.Repeated.{times_again, times_none, times_of_none}
use Rattle.star_operators.proofs.repeating.times_items.Goals as goal

pub returns-then-is_empty : goal.returns-then-is_empty
returns-then-is_empty c =
    let none : length c.args.items.now ≡ 0 = grind (arith, nat_tests, c.if-is_empty.ensures) in
    c.of_vec.ensures ∙ c.new-made.ensures.items
    ∙ sym (times_of_none c.args.turns c.args.items.now none)

pub repeating-init : goal.repeating-init
repeating-init c = c.new-made.ensures.items ∙ sym (times_none c.args.items.now)

pub repeating-preserved : goal.repeating-preserved
repeating-preserved c =
    c.in_ok-extend_from_slice.ensures.items
    ∙ times_again c.repeating.turn c.args.items.now _ c.repeating.invariant
