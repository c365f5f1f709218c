use Rattle.std.proofs.Common.{rules, arith, [], ◌∷◌, Some, None}
use Rattle.std.proofs.lemmas.Grind.{common_steps}
use Rattle.star_grammar.specs.ExpressionReading.{reads}
use Rattle.star_grammar.specs.Readers.{◌>>◌, skip, adds, goes_on, more, one, rounds}
use Rattle.star_grammar.specs.declared.symbols.Sign.TheVariants as s
use Rattle.bz_text.proofs.Turns.{one_more, no_more}
use Rattle.star_expressions.proofs.grammar.Grammar.more_items.Goals as goal

pub turns-preserved : goal.turns-preserved
unfolding rounds
turns-preserved g c =
    let e = one_more (λ n. rounds (goes_on s.Comma c.args.close) (λ items. skip >> adds (reads
    c.args.self.now.nesting c.args.level) items) n
    (c.turns.items, c.turns.depth) c.turns.symbols.rest.now) _ c.turns.turn c.turns-test.true
    c.turns.invariant in
    first_of (search rules, grind (arith, common_steps))
