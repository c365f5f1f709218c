use Rattle.std.proofs.Common.{rules, arith, [], ◌∷◌, Some, None}
use Rattle.std.proofs.lemmas.Grind.{common_steps}
use Rattle.star_grammar.specs.StatementReading.{loaded}
use Rattle.star_grammar.specs.Readers.{◌>>◌, skip, adds, goes_on, more, rounds}
use Rattle.star_grammar.specs.declared.symbols.Sign.TheVariants as s
use Rattle.bz_text.proofs.Turns.{one_more, no_more}
use Rattle.star_statements.proofs.loads.more_loaded.Goals as goal

pub turns-preserved : goal.turns-preserved
unfolding rounds
turns-preserved c =
    let e = one_more (λ n. rounds (goes_on s.Comma (Some s.RightRound)) (λ items. skip >> adds
    loaded items) n (c.turns.names.items, c.turns.depth) c.turns.symbols.rest.now) _
    c.turns.turn c.turns-test.true c.turns.invariant in
    first_of (search rules, grind (arith, common_steps))

pub returns-then-not-goes_on : goal.returns-then-not-goes_on
unfolding rounds
returns-then-not-goes_on c =
    let e = one_more (λ n. rounds (goes_on s.Comma (Some s.RightRound)) (λ items. skip >> adds
    loaded items) n (c.turns.names.items, c.turns.depth) c.turns.symbols.rest.now) _
    c.turns.turn c.turns-test.true c.turns.invariant in
    first_of (search rules, grind (arith, common_steps))

pub returns-in_err-name : goal.returns-in_err-name
unfolding rounds
returns-in_err-name c =
    let e = one_more (λ n. rounds (goes_on s.Comma (Some s.RightRound)) (λ items. skip >> adds
    loaded items) n (c.turns.names.items, c.turns.depth) c.turns.symbols.rest.now) _
    c.turns.turn c.turns-test.true c.turns.invariant in
    first_of (search rules, grind (arith, common_steps))
