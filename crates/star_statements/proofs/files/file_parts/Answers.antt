use Rattle.std.proofs.Common.{rules, arith, [], ◌∷◌, Some, None}
use Rattle.std.proofs.lemmas.Grind.{common_steps}
use Rattle.star_grammar.specs.StatementReading.{file_part, file_parts, has_more}
use Rattle.star_grammar.specs.Readers.{joins, rounds}
use Rattle.bz_text.proofs.Turns.{one_more, no_more}
use Rattle.star_statements.proofs.files.file_parts.Goals as goal

pub turns-preserved : goal.turns-preserved
unfolding rounds
turns-preserved c =
    let e = one_more (λ n. rounds has_more (joins file_part) n (c.turns.body, c.turns.depth)
    c.turns.symbols.rest.now) _ c.turns.turn c.turns-test.true c.turns.invariant in
    first_of (search rules, grind (arith, common_steps))
