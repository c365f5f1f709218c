use Rattle.std.proofs.Common.{rules, arith, [], ◌∷◌, Some, None}
use Rattle.std.proofs.lemmas.Grind.{common_steps}
use Rattle.std.specs.Prelude.{not}
use Rattle.star_grammar.specs.StatementReading.{stands}
use Rattle.star_grammar.specs.Readers.{joins, rounds, sees, turns}
use Rattle.star_grammar.specs.declared.bare_statements.Part.TheVariants as part
use Rattle.star_grammar.specs.declared.symbols.Sign.TheVariants as s
use Rattle.bz_text.proofs.Turns.{one_more, no_more}
use Rattle.star_statements.proofs.suites.Suites.statements.Goals as goal

pub turns-preserved : goal.turns-preserved
unfolding rounds
turns-preserved g c =
    let e = one_more (λ n. rounds (λ i. not (sees s.Outdent i)) (joins (stands
    c.args.self.now.nesting part.Statement c.args.inside)) n
    (c.turns.body, c.turns.depth) c.turns.symbols.rest.now) _ c.turns.turn c.turns-test.true
    c.turns.invariant in
    first_of (search rules, grind (arith, common_steps))
