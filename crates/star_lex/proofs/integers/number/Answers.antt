use Rattle.std.proofs.Common.{rules, arith, ◌<◌, sym, ◌∙◌}
use Rattle.star_lex.proofs.Numbers.{within_last-step, within_last-no_digit, within_last-over}
use Rattle.star_lex.proofs.Numbers.{within_last-all, number-some, up_to_last-low, up_to_last-high}
use Rattle.star_lex.proofs.integers.number.Goals as goal

pub digits-preserved : goal.digits-preserved
digits-preserved c =
    let low : _ < _ = c.if-digit-base.false in
    sym (within_last-step c.args.base c.digits.value c.in-Some.next c.digits.byte-index
    c.args.digits.now (omega arith) (search rules) (search rules)) ∙ c.digits.invariant

pub returns-then-digit-base-clause-exact : goal.returns-then-digit-base-clause-exact
returns-then-digit-base-clause-exact c =
    sym (within_last-no_digit c.args.base c.digits.value c.digits.byte-index c.args.digits.now
    (omega arith) (search rules))
    ∙ (c.digits.invariant ∙ sym (number-some c.args.base c.args.digits.now (omega arith)))

pub returns-in-None-clause-exact : goal.returns-in-None-clause-exact
returns-in-None-clause-exact c =
    sym (within_last-over c.args.base c.digits.value c.digits.byte-index c.args.digits.now
    (omega arith) c.requires (search rules) (search rules))
    ∙ (c.digits.invariant ∙ sym (number-some c.args.base c.args.digits.now (omega arith)))

pub returns-then-value-le-LAST_INTEGER-clause-exact :
    goal.returns-then-value-le-LAST_INTEGER-clause-exact
returns-then-value-le-LAST_INTEGER-clause-exact c =
    sym (up_to_last-low c.digits.value (omega arith))
    ∙ (sym (within_last-all c.args.base c.digits.value c.digits.byte-index c.args.digits.now
    (omega arith)) ∙ (c.digits.invariant ∙ sym (number-some c.args.base c.args.digits.now (omega
    arith))))

pub returns-else-value-le-LAST_INTEGER-clause-exact :
    goal.returns-else-value-le-LAST_INTEGER-clause-exact
returns-else-value-le-LAST_INTEGER-clause-exact c =
    sym (up_to_last-high c.digits.value (omega arith))
    ∙ (sym (within_last-all c.args.base c.digits.value c.digits.byte-index c.args.digits.now
    (omega arith)) ∙ (c.digits.invariant ∙ sym (number-some c.args.base c.args.digits.now (omega
    arith))))
