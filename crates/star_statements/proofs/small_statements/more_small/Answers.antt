use Rattle.std.proofs.Common.{rules, arith, [], ◌∷◌, Some, None}
use Rattle.std.proofs.lemmas.Grind.{common_steps}
use Rattle.star_grammar.specs.ExpressionReading.{reads}
use Rattle.star_grammar.specs.StatementReading.{small}
use Rattle.star_grammar.specs.Readers.{◌>>◌, skip, adds, goes_on, more, one, rounds}
use Rattle.star_grammar.specs.declared.symbols.Sign.TheVariants as s
use Rattle.bz_text.proofs.Turns.{one_more, no_more}
use Rattle.star_statements.proofs.small_statements.more_small.Goals as goal

pub turns-preserved : goal.turns-preserved
unfolding rounds
turns-preserved c =
    let e = one_more (λ n. rounds (goes_on s.Semicolon (Some s.Newline)) (λ items. skip >> adds
    (small (reads c.args.nesting) c.args.inside) items) n
    (c.turns.body, c.turns.depth) c.turns.symbols.rest.now) _ c.turns.turn c.turns-test.true
    c.turns.invariant in
    first_of (search rules, grind (arith, common_steps))

pub returns-then-not-goes_on : goal.returns-then-not-goes_on
unfolding rounds
returns-then-not-goes_on c =
    let e = one_more (λ n. rounds (goes_on s.Semicolon (Some s.Newline)) (λ items. skip >> adds
    (small (reads c.args.nesting) c.args.inside) items) n
    (c.turns.body, c.turns.depth) c.turns.symbols.rest.now) _ c.turns.turn c.turns-test.true
    c.turns.invariant in
    first_of (search rules, grind (arith, common_steps))
