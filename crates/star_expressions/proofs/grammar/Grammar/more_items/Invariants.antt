use Rattle.std.proofs.Common.{◌≡◌, ◌-◌, [], ◌∷◌, Some, None}
use Rattle.star_grammar.specs.ExpressionReading.{reads}
use Rattle.star_grammar.specs.Readers.{◌>>◌, skip, adds, goes_on, more, one, rounds}
use Rattle.star_grammar.specs.declared.symbols.Sign.TheVariants as s
use Rattle.star_expressions.proofs.grammar.Grammar.more_items.Given as goal

abbrev pub invariant-turns : goal.invariant-turns
invariant-turns g l =
    more s.Comma l.close (reads l.self.nesting l.level) (one l.fn.first) l.fn.symbols.rest.now
    ≡ rounds (goes_on s.Comma l.close) (λ items. skip >> adds (reads l.self.nesting l.level) items)
    (l.turn-end - l.turn) (l.items, l.depth) l.symbols.rest.now
