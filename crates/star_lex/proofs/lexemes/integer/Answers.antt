use Rattle.std.proofs.Common.{◌≡◌, true, take, drop, None, rules}
use Rattle.star_lex.specs.Integers.{begins_fraction, integer_of}
use Rattle.star_lex.proofs.LexemeLaws.{IsInteger-fraction, IsInteger-no_value}
use Rattle.star_lex.proofs.lexemes.integer.Goals as goal

pub returns-then-begins_fraction : goal.returns-then-begins_fraction
returns-then-begins_fraction c =
    let fraction : begins_fraction (drop c.run_length-size.result c.args.text.now)
    ≡ true = search rules in
    IsInteger-fraction c.args.text.now c.run_length-size.result c.run_length-size.ensures fraction

pub returns-in-None : goal.returns-in-None
returns-in-None c =
    let none : integer_of (take c.run_length-size.result c.args.text.now) ≡ None = search rules in
    IsInteger-no_value c.args.text.now c.run_length-size.result c.run_length-size.ensures none
