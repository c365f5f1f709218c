-- Which names a target, clauses, parameters and statements bind in the scope in which they stand:
-- the Starlark specification, "Name binding and variables". What nests in a function or a
-- comprehension binds in that one's own scope.
use Rattle.star_grammar.specs.declared.bare_statements.BareLoadName.{BareLoadName}
use Rattle.star_trees.specs.Variables.{Binding, name_binds}

-- the binding of a loaded name
abbrev pub loaded_binds : BareLoadName → Binding
loaded_binds loaded = name_binds loaded.name.local
