use Rattle.std.proofs.Common.{◌≡◌, ◌-◌}
use Rattle.star_grammar.specs.ExpressionReading.{reads, arithmetic, begins_operation, chain}
use Rattle.star_grammar.specs.ExpressionReading.{operated, operation}
use Rattle.star_grammar.specs.Readers.{rounds}
use Rattle.star_expressions.proofs.grammar.Grammar.+arithmetic.Given as goal

abbrev pub decreases-arithmetic : goal.decreases-arithmetic
decreases-arithmetic g l = l.levels

abbrev pub invariant-turns : goal.invariant-turns
invariant-turns g l =
    arithmetic (reads l.self.nesting) l.levels l.fn.symbols.rest.now
    ≡ rounds (begins_operation (reads l.self.nesting) (l.levels - 1))
    (operation (reads l.self.nesting) (l.levels - 1)
    (arithmetic (reads l.self.nesting) (l.levels - 1)))
    (l.turn-end - l.turn) l.left l.symbols.rest.now
