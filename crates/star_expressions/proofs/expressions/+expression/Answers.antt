use Rattle.std.proofs.Common.{◌≡◌, ap, arith}
use Rattle.star_grammar.specs.ExpressionReading.{reads}
use Rattle.bz_text.proofs.Turns.{deeper}
use Rattle.star_expressions.proofs.expressions.+expression.Goals as goal

pub returns-then-nesting-eq0 : goal.returns-then-nesting-eq0
unfolding reads
returns-then-nesting-eq0 t c = let none : c.args.nesting
    ≡ 0 = omega arith in ap (λ n. reads n c.args.level c.args.symbols.now.rest.now) none

pub returns : goal.returns
unfolding reads
returns t c = rw (deeper (λ n. reads n c.args.level c.args.symbols.now.rest.now) c.args.nesting
    (omega arith)) c.at.ensures
