use Rattle.std.proofs.Common.{◌≡◌, ◌-◌, [], ◌∷◌, Some, None}
use Rattle.star_grammar.specs.ExpressionReading.{reads, any_clause, begins_clause}
use Rattle.star_grammar.specs.Readers.{adds, one, rounds, turns}
use Rattle.star_expressions.proofs.grammar.Grammar.more_clauses.Given as goal

abbrev pub invariant-turns : goal.invariant-turns
invariant-turns g l =
    turns (begins_clause (reads l.self.nesting)) (adds (any_clause (reads l.self.nesting)))
    (one l.fn.first) l.fn.symbols.rest.now
    ≡ rounds (begins_clause (reads l.self.nesting)) (adds (any_clause (reads l.self.nesting)))
    (l.turn-end - l.turn) (l.clauses, l.depth) l.symbols.rest.now
