use Rattle.std.proofs.Common.{◌≡◌, ap, arith}
use Rattle.star_grammar.specs.StatementReading.{stands}
use Rattle.bz_text.proofs.Turns.{deeper}
use Rattle.star_statements.proofs.files.+nested_statements.Goals as goal

pub returns-then-nesting-eq0 : goal.returns-then-nesting-eq0
unfolding stands
returns-then-nesting-eq0 t c = let none : c.args.nesting
    ≡ 0 = omega arith in ap
    (λ n. stands n c.args.part c.args.inside c.args.symbols.now.rest.now) none

pub returns : goal.returns
unfolding stands
returns t c = rw (deeper (λ n. stands n c.args.part c.args.inside c.args.symbols.now.rest.now)
    c.args.nesting (omega arith)) c.part.ensures
