use Rattle.std.proofs.Common.{◌≡◌, ◌-◌, [], ◌∷◌, Some, None}
use Rattle.star_grammar.specs.ExpressionReading.{reads, suffix, begins_suffix}
use Rattle.star_grammar.specs.Readers.{rounds, turns}
use Rattle.star_expressions.proofs.grammar.Grammar.suffixes.Given as goal

abbrev pub invariant-turns : goal.invariant-turns
invariant-turns g l =
    turns (begins_suffix (reads l.self.nesting))
    (suffix (reads l.self.nesting)) l.fn.first l.fn.symbols.rest.now
    ≡ rounds (begins_suffix (reads l.self.nesting)) (suffix (reads l.self.nesting))
    (l.turn-end - l.turn) l.found l.symbols.rest.now
