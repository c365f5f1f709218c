use Rattle.std.proofs.Common.{rules, arith, [], ◌∷◌, Some, None}
use Rattle.std.proofs.lemmas.Grind.{common_steps}
use Rattle.star_grammar.specs.ExpressionReading.{reads, any_clause, begins_clause}
use Rattle.star_grammar.specs.Readers.{adds, one, rounds, turns}
use Rattle.bz_text.proofs.Turns.{one_more, no_more}
use Rattle.star_expressions.proofs.grammar.Grammar.more_clauses.Goals as goal

pub turns-preserved : goal.turns-preserved
unfolding rounds
turns-preserved g c =
    let e = one_more (λ n. rounds (begins_clause (reads c.args.self.now.nesting)) (adds (any_clause
    (reads c.args.self.now.nesting))) n
    (c.turns.clauses, c.turns.depth) c.turns.symbols.rest.now) _ c.turns.turn c.turns-test.true
    c.turns.invariant in
    first_of (search rules, grind (arith, common_steps))

pub returns-then-not-begins_clause : goal.returns-then-not-begins_clause
unfolding rounds
returns-then-not-begins_clause g c =
    let e = one_more (λ n. rounds (begins_clause (reads c.args.self.now.nesting)) (adds (any_clause
    (reads c.args.self.now.nesting))) n
    (c.turns.clauses, c.turns.depth) c.turns.symbols.rest.now) _ c.turns.turn c.turns-test.true
    c.turns.invariant in
    first_of (search rules, grind (arith, common_steps))

pub returns-in_err-clause : goal.returns-in_err-clause
unfolding rounds
returns-in_err-clause g c =
    let e = one_more (λ n. rounds (begins_clause (reads c.args.self.now.nesting)) (adds (any_clause
    (reads c.args.self.now.nesting))) n
    (c.turns.clauses, c.turns.depth) c.turns.symbols.rest.now) _ c.turns.turn c.turns-test.true
    c.turns.invariant in
    first_of (search rules, grind (arith, common_steps))
