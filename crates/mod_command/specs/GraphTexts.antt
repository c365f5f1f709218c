-- The text of a graph: per selected module its key, and a line per dependency.
use Rattle.std.specs.Prelude.{ℕ, List, [], ◌++◌, zip, flat_map, slice_get, Option, codes}
use Rattle.std.specs.Option.{option_and_then, option_map_or}
use Rattle.bz_base.specs.declared.declarations.Dep.{Dep}
use Rattle.bz_base.specs.declared.module_graph.Chosen.{Chosen}
use Rattle.bz_base.specs.declared.module_graph.Graph.{Graph}
use Rattle.bz_base.specs.declared.module_graph.GraphNode.{GraphNode}
use Rattle.bz_base.specs.declared.module_graph.Selected.{Selected}
use Rattle.bz_base.specs.Keys.{node_text}

-- the node of a selected module, by its index in module order
abbrev pub node_at : List GraphNode → List Chosen → ℕ → Option GraphNode
node_at nodes modules index = option_and_then (λ chosen. slice_get nodes chosen.node)
    (slice_get modules index)

-- `  APPARENT -> KEY`
abbrev pub dep_line : List ℕ → GraphNode → List ℕ
dep_line apparent needed = codes "  " ++ apparent ++ codes " -> " ++ node_text needed ++ codes "\n"

-- the line of a dependency that means the selected module of a index
abbrev pub dep_line_of : List GraphNode → List Chosen → Dep × ℕ → List ℕ
dep_line_of nodes modules pair = option_map_or (dep_line pair.0.apparent)
    (node_at nodes modules pair.1) []

abbrev pub module_lines_of : List GraphNode → List Chosen → Chosen → GraphNode → List ℕ
module_lines_of nodes modules chosen node =
    node_text node ++ codes "\n"
    ++ flat_map (dep_line_of nodes modules) (zip node.decl.deps chosen.deps)

-- the key of a selected module, and its dependencies in order of declaration
abbrev pub module_lines : List GraphNode → List Chosen → Chosen → List ℕ
module_lines nodes modules chosen = option_map_or (module_lines_of nodes modules chosen)
    (slice_get nodes chosen.node) []

-- the selected modules in module order
abbrev pub graph_lines : Graph → Selected → List ℕ
graph_lines graph selected = flat_map (module_lines graph.nodes selected.modules) selected.modules
