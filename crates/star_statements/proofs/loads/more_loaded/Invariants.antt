use Rattle.std.proofs.Common.{◌≡◌, ◌-◌, [], ◌∷◌, Some, None}
use Rattle.star_grammar.specs.StatementReading.{loaded}
use Rattle.star_grammar.specs.Readers.{◌>>◌, skip, adds, goes_on, more, rounds}
use Rattle.star_grammar.specs.declared.symbols.Sign.TheVariants as s
use Rattle.star_statements.proofs.loads.more_loaded.Given as goal

abbrev pub invariant-turns : goal.invariant-turns
invariant-turns l =
    more s.Comma (Some s.RightRound) loaded ([], 0) l.fn.symbols.rest.now
    ≡ rounds (goes_on s.Comma (Some s.RightRound)) (λ items. skip >> adds loaded items)
    (l.turn-end - l.turn) (l.names.items, l.depth) l.symbols.rest.now
