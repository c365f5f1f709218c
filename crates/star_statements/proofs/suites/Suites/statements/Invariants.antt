use Rattle.std.proofs.Common.{◌≡◌, ◌-◌, [], ◌∷◌, Some, None}
use Rattle.std.specs.Prelude.{not}
use Rattle.star_grammar.specs.StatementReading.{stands}
use Rattle.star_grammar.specs.Readers.{joins, rounds, sees, turns}
use Rattle.star_grammar.specs.declared.bare_statements.Part.TheVariants as part
use Rattle.star_grammar.specs.declared.symbols.Sign.TheVariants as s
use Rattle.star_statements.proofs.suites.Suites.statements.Given as goal

abbrev pub invariant-turns : goal.invariant-turns
invariant-turns g l =
    turns (λ i. not (sees s.Outdent i)) (joins (stands l.self.nesting part.Statement l.inside))
    ([], 0) l.fn.symbols.rest.now
    ≡ rounds (λ i. not (sees s.Outdent i)) (joins (stands l.self.nesting part.Statement l.inside))
    (l.turn-end - l.turn) (l.body, l.depth) l.symbols.rest.now
