use Rattle.std.proofs.Common.{◌≡◌, ◌-◌, rules, arith}
use Rattle.std.proofs.lemmas.Grind.{common_steps}
use Rattle.star_grammar.specs.ExpressionReading.{reads, arithmetic, begins_operation, chain}
use Rattle.star_grammar.specs.ExpressionReading.{operated, operation}
use Rattle.star_grammar.specs.Readers.{rounds}
use Rattle.star_expressions.proofs.Loosest.{arithmetic-loosest}
use Rattle.bz_text.proofs.Turns.{one_more, no_more}
use Rattle.star_expressions.proofs.grammar.Grammar.+arithmetic.Goals as goal

pub returns-in_err-arithmetic : goal.returns-in_err-arithmetic
returns-in_err-arithmetic g t c = rw
    (arithmetic-loosest (reads c.args.self.now.nesting) c.args.levels (omega arith))
    (first_of (search rules, grind (arith, common_steps)))

pub turns-init : goal.turns-init
turns-init g t c = rw
    (arithmetic-loosest (reads c.args.self.now.nesting) c.args.levels (omega arith))
    (first_of (search rules, grind (arith, common_steps)))

pub turns-preserved : goal.turns-preserved
unfolding rounds operated
turns-preserved g t c =
    let e = one_more (λ n. rounds (begins_operation (reads c.args.self.now.nesting) (c.args.levels -
    1)) (operation (reads c.args.self.now.nesting) (c.args.levels - 1)
    (arithmetic (reads c.args.self.now.nesting)
    (c.args.levels - 1))) n c.turns.left c.turns.symbols.rest.now) _ c.turns.turn
    c.turns-test.true c.turns.invariant in
    first_of (search rules, grind (arith, common_steps))

pub returns-in_default : goal.returns-in_default
unfolding rounds operated
returns-in_default g t c =
    let e = one_more (λ n. rounds (begins_operation (reads c.args.self.now.nesting) (c.args.levels -
    1)) (operation (reads c.args.self.now.nesting) (c.args.levels - 1)
    (arithmetic (reads c.args.self.now.nesting)
    (c.args.levels - 1))) n c.turns.left c.turns.symbols.rest.now) _ c.turns.turn
    c.turns-test.true c.turns.invariant in
    first_of (search rules, grind (arith, common_steps))
