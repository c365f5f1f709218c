use Rattle.std.proofs.Common.{rules, arith, [], ◌∷◌, Some, None}
use Rattle.std.proofs.lemmas.Grind.{common_steps}
use Rattle.star_grammar.specs.ExpressionReading.{reads, arithmetic, begins_operation, conjunction}
use Rattle.star_grammar.specs.ExpressionReading.{disjunction, negation, operated, operation}
use Rattle.star_grammar.specs.Readers.{rounds}
use Rattle.bz_text.proofs.Turns.{one_more, no_more}
use Rattle.star_expressions.proofs.grammar.Grammar.conjunction.Goals as goal

pub turns-preserved : goal.turns-preserved
unfolding rounds operated
turns-preserved g c =
    let e = one_more (λ n. rounds (begins_operation (reads c.args.self.now.nesting) 6) (operation
    (reads c.args.self.now.nesting) 6
    (negation (reads c.args.self.now.nesting))) n c.turns.left c.turns.symbols.rest.now) _
    c.turns.turn c.turns-test.true c.turns.invariant in
    first_of (search rules, grind (arith, common_steps))
