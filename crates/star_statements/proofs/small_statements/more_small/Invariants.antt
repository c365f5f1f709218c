use Rattle.std.proofs.Common.{◌≡◌, ◌-◌, [], ◌∷◌, Some, None}
use Rattle.star_grammar.specs.ExpressionReading.{reads}
use Rattle.star_grammar.specs.StatementReading.{small}
use Rattle.star_grammar.specs.Readers.{◌>>◌, skip, adds, goes_on, more, one, rounds}
use Rattle.star_grammar.specs.declared.symbols.Sign.TheVariants as s
use Rattle.star_statements.proofs.small_statements.more_small.Given as goal

abbrev pub invariant-turns : goal.invariant-turns
invariant-turns l =
    more s.Semicolon (Some s.Newline) (small (reads l.nesting) l.inside)
    (one l.fn.first) l.fn.symbols.rest.now
    ≡ rounds (goes_on s.Semicolon (Some s.Newline))
    (λ items. skip >> adds (small (reads l.nesting) l.inside) items) (l.turn-end - l.turn)
    (l.body, l.depth) l.symbols.rest.now
