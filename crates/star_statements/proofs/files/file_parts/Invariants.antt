use Rattle.std.proofs.Common.{◌≡◌, ◌-◌, [], ◌∷◌, Some, None}
use Rattle.star_grammar.specs.StatementReading.{file_part, file_parts, has_more}
use Rattle.star_grammar.specs.Readers.{joins, rounds}
use Rattle.star_statements.proofs.files.file_parts.Given as goal

abbrev pub invariant-turns : goal.invariant-turns
invariant-turns l =
    file_parts l.fn.symbols.rest.now
    ≡ rounds has_more (joins file_part) (l.turn-end - l.turn) (l.body, l.depth) l.symbols.rest.now
