use Rattle.std.proofs.Common.{rules, arith, [], ◌∷◌, Some, None}
use Rattle.std.proofs.lemmas.Grind.{common_steps}
use Rattle.star_grammar.specs.ExpressionReading.{reads, suffix, begins_suffix}
use Rattle.star_grammar.specs.Readers.{rounds, turns}
use Rattle.bz_text.proofs.Turns.{one_more, no_more}
use Rattle.star_expressions.proofs.grammar.Grammar.suffixes.Goals as goal

pub turns-preserved : goal.turns-preserved
unfolding rounds
turns-preserved g c =
    let e = one_more (λ n. rounds (begins_suffix (reads c.args.self.now.nesting)) (suffix (reads
    c.args.self.now.nesting)) n c.turns.found c.turns.symbols.rest.now) _ c.turns.turn
    c.turns-test.true c.turns.invariant in
    first_of (search rules, grind (arith, common_steps))

pub returns-then-not-begins_suffix : goal.returns-then-not-begins_suffix
unfolding rounds
returns-then-not-begins_suffix g c =
    let e = one_more (λ n. rounds (begins_suffix (reads c.args.self.now.nesting)) (suffix (reads
    c.args.self.now.nesting)) n c.turns.found c.turns.symbols.rest.now) _ c.turns.turn
    c.turns-test.true c.turns.invariant in
    first_of (search rules, grind (arith, common_steps))

pub returns-in_err-suffix : goal.returns-in_err-suffix
unfolding rounds
returns-in_err-suffix g c =
    let e = one_more (λ n. rounds (begins_suffix (reads c.args.self.now.nesting)) (suffix (reads
    c.args.self.now.nesting)) n c.turns.found c.turns.symbols.rest.now) _ c.turns.turn
    c.turns-test.true c.turns.invariant in
    first_of (search rules, grind (arith, common_steps))
