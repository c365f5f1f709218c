use Rattle.std.proofs.Common.{◌≡◌, ◌++◌, string_bytes, zip}
use Rattle.std.specs.Prelude.{flat_map}
use Rattle.mod_command.specs.GraphTexts.{dep_line_of}
use Rattle.mod_command.proofs.graph_text.push_deps.Given as goal

-- what is written and the lines of what is left are the text and all lines
abbrev pub invariant-loop-dep : goal.invariant-loop-dep
invariant-loop-dep l =
    string_bytes l.text ++ flat_map (dep_line_of l.nodes l.modules) (zip l.dep-iterator.a.rest.now
    l.dep-iterator.b.rest.now) ≡ string_bytes l.initial.text
    ++ flat_map (dep_line_of l.nodes l.modules) (zip l.deps l.indexes)
