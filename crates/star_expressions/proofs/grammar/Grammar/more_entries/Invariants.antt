use Rattle.std.proofs.Common.{◌≡◌, ◌-◌, [], ◌∷◌, Some, None}
use Rattle.star_grammar.specs.ExpressionReading.{reads, entry}
use Rattle.star_grammar.specs.Readers.{◌>>◌, skip, adds, goes_on, more, one, rounds}
use Rattle.star_grammar.specs.declared.symbols.Sign.TheVariants as s
use Rattle.star_expressions.proofs.grammar.Grammar.more_entries.Given as goal

abbrev pub invariant-turns : goal.invariant-turns
invariant-turns g l =
    more s.Comma (Some s.RightCurly) (entry (reads l.self.nesting))
    (one l.fn.first) l.fn.symbols.rest.now
    ≡ rounds (goes_on s.Comma (Some s.RightCurly))
    (λ items. skip >> adds (entry (reads l.self.nesting)) items) (l.turn-end - l.turn)
    (l.pairs, l.depth) l.symbols.rest.now
