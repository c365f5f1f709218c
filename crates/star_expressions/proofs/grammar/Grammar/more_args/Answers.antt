use Rattle.std.proofs.Common.{rules, arith, [], ◌∷◌, Some, None}
use Rattle.std.proofs.lemmas.Grind.{common_steps}
use Rattle.star_grammar.specs.ExpressionReading.{reads, arg, more_args}
use Rattle.star_grammar.specs.Readers.{◌>>◌, skip, adds, goes_on, one, rounds}
use Rattle.star_grammar.specs.declared.bare_expressions.Level.TheVariants as level
use Rattle.star_grammar.specs.declared.symbols.Sign.TheVariants as s
use Rattle.bz_text.proofs.Turns.{one_more, no_more}
use Rattle.star_expressions.proofs.grammar.Grammar.more_args.Goals as goal

pub turns-preserved : goal.turns-preserved
unfolding rounds
turns-preserved g c =
    let e = one_more (λ n. rounds (goes_on s.Comma (Some s.RightRound)) (λ items. skip >> adds (arg
    (reads c.args.self.now.nesting level.Test)) items) n
    (c.turns.args, c.turns.depth) c.turns.symbols.rest.now) _ c.turns.turn c.turns-test.true
    c.turns.invariant in
    first_of (search rules, grind (arith, common_steps))

pub returns-then-not-goes_on : goal.returns-then-not-goes_on
unfolding rounds
returns-then-not-goes_on g c =
    let e = one_more (λ n. rounds (goes_on s.Comma (Some s.RightRound)) (λ items. skip >> adds (arg
    (reads c.args.self.now.nesting level.Test)) items) n
    (c.turns.args, c.turns.depth) c.turns.symbols.rest.now) _ c.turns.turn c.turns-test.true
    c.turns.invariant in
    first_of (search rules, grind (arith, common_steps))

pub returns-in_err-arg : goal.returns-in_err-arg
unfolding rounds
returns-in_err-arg g c =
    let e = one_more (λ n. rounds (goes_on s.Comma (Some s.RightRound)) (λ items. skip >> adds (arg
    (reads c.args.self.now.nesting level.Test)) items) n
    (c.turns.args, c.turns.depth) c.turns.symbols.rest.now) _ c.turns.turn c.turns-test.true
    c.turns.invariant in
    first_of (search rules, grind (arith, common_steps))
