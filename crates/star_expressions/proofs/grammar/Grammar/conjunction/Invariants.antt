use Rattle.std.proofs.Common.{◌≡◌, ◌-◌, [], ◌∷◌, Some, None}
use Rattle.star_grammar.specs.ExpressionReading.{reads, arithmetic, begins_operation, conjunction}
use Rattle.star_grammar.specs.ExpressionReading.{disjunction, negation, operated, operation}
use Rattle.star_grammar.specs.Readers.{rounds}
use Rattle.star_expressions.proofs.grammar.Grammar.conjunction.Given as goal

abbrev pub invariant-turns : goal.invariant-turns
invariant-turns g l =
    conjunction (reads l.self.nesting) l.fn.symbols.rest.now
    ≡ rounds (begins_operation (reads l.self.nesting) 6)
    (operation (reads l.self.nesting) 6 (negation (reads l.self.nesting)))
    (l.turn-end - l.turn) l.left l.symbols.rest.now
