use Rattle.std.proofs.Common.{◌≡◌, ◌-◌}
use Rattle.star_grammar.specs.ExpressionReading.{reads, param, more_params}
use Rattle.star_grammar.specs.Readers.{◌>>◌, skip, adds, goes_on, one, rounds}
use Rattle.star_grammar.specs.declared.bare_expressions.Level.TheVariants as level
use Rattle.star_grammar.specs.declared.symbols.Sign.TheVariants as s
use Rattle.star_expressions.proofs.grammar.Grammar.more_params.Given as goal

abbrev pub invariant-turns : goal.invariant-turns
invariant-turns g l =
    more_params (reads l.self.nesting level.Test) l.close (one l.fn.first) l.fn.symbols.rest.now
    ≡ rounds (goes_on s.Comma l.close)
    (λ items. skip >> adds (param (reads l.self.nesting level.Test)) items)
    (l.turn-end - l.turn) (l.params, l.depth) l.symbols.rest.now
