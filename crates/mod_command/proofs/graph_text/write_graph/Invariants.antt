use Rattle.std.proofs.Common.{◌≡◌, ◌++◌, drop, string_bytes}
use Rattle.std.specs.Prelude.{flat_map}
use Rattle.mod_command.specs.GraphTexts.{module_lines}
use Rattle.mod_command.proofs.graph_text.write_graph.Given as goal

-- what is written and the lines of what is left are all lines
abbrev pub invariant-loop-chosen : goal.invariant-loop-chosen
invariant-loop-chosen l =
    string_bytes l.text ++ flat_map (module_lines l.nodes l.modules) (drop l.chosen-index l.modules)
    ≡ flat_map (module_lines l.nodes l.modules) l.modules
