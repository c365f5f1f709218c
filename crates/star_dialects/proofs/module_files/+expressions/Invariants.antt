use Rattle.std.proofs.Common.{◌≡◌, drop, map}
use Rattle.star_dialects.specs.ModuleFiles.{first_in_arg, first_in_clause, first_in_items}
use Rattle.star_dialects.specs.ModuleFiles.{first_in_pair, first_in_parts, seen}
use Rattle.star_dialects.proofs.module_files.+expressions.Given as goal

abbrev pub invariant-first_in_items-turns : goal.invariant-first_in_items-turns
invariant-first_in_items-turns l = first_in_items (map seen l.items)
    ≡ first_in_items (map seen (drop l.item-index l.items))

abbrev pub invariant-first_in_pairs-turns : goal.invariant-first_in_pairs-turns
invariant-first_in_pairs-turns l = first_in_parts (map first_in_pair l.pairs)
    ≡ first_in_parts (map first_in_pair (drop l.pair-index l.pairs))

abbrev pub invariant-first_in_clauses-turns : goal.invariant-first_in_clauses-turns
invariant-first_in_clauses-turns l = first_in_parts (map first_in_clause l.clauses)
    ≡ first_in_parts (map first_in_clause (drop l.clause-index l.clauses))

abbrev pub invariant-first_in_args-turns : goal.invariant-first_in_args-turns
invariant-first_in_args-turns l = first_in_parts (map first_in_arg l.args)
    ≡ first_in_parts (map first_in_arg (drop l.arg-index l.args))
