use Rattle.std.proofs.Common.{◌≡◌, ◌-◌, [], ◌∷◌, Some, None}
use Rattle.star_grammar.specs.ExpressionReading.{reads, arithmetic, begins_operation, conjunction}
use Rattle.star_grammar.specs.ExpressionReading.{disjunction, negation, operated, operation}
use Rattle.star_grammar.specs.Readers.{rounds}
use Rattle.star_expressions.proofs.grammar.Grammar.disjunction.Given as goal

abbrev pub invariant-turns : goal.invariant-turns
invariant-turns g l =
    disjunction (reads l.self.nesting) l.fn.symbols.rest.now
    ≡ rounds (begins_operation (reads l.self.nesting) 7)
    (operation (reads l.self.nesting) 7 (conjunction (reads l.self.nesting)))
    (l.turn-end - l.turn) l.left l.symbols.rest.now
