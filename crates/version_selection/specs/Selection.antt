-- The selected modules: Bazel, "Bazel modules", section "Version selection": every requirement that
-- was discovered counts, of each group one version is chosen, and what the root then needs is
-- selected.
use Rattle.std.specs.Prelude.{ℕ, Bool, false, nat_eq, List, [], filter_map, map, slice_get, Option}
use Rattle.std.specs.Prelude.{None, Some, Result, Ok, Err}
use Rattle.std.specs.List.{position, position_from}
use Rattle.std.specs.Option.{option_map_or}
use Rattle.bz_base.specs.declared.module_graph.Chosen.{Chosen}
use Rattle.bz_base.specs.declared.module_graph.Graph.{Graph}
use Rattle.bz_base.specs.declared.module_graph.GraphNode.{GraphNode}
use Rattle.bz_base.specs.declared.module_graph.Selected.{Selected}
use Rattle.bz_base.specs.declared.module_key.Key.{Key}
use Rattle.bz_base.specs.declared.refusals.Refusal.{Refusal}
use Rattle.index_walks.specs.Reaching.{reached}
use Rattle.overrides.specs.Overrides.{RootOverrides, names_of}
use Rattle.version_selection.specs.Choices.{has_key, links}
use Rattle.version_selection.specs.Refusals.{first_absent, first_refusal}

-- the indexes of the selected nodes, in module order: what the root reaches by choices
abbrev pub indexes : RootOverrides → List GraphNode → List ℕ
indexes overrides nodes = reached (links overrides nodes)

-- the indexes among the selected modules
abbrev pub indexes_in : List ℕ → List ℕ → List ℕ
indexes_in selected some = filter_map (λ index. position_from (nat_eq index) 0 selected) some

-- the selected modules to which the choices of a node's needs lead, in order
abbrev pub deps_at : List (List ℕ) → List ℕ → ℕ → List ℕ
deps_at links selected index = option_map_or (indexes_in selected) (slice_get links index) []

-- a selected module with its dependencies, by the choices of each node's needs
abbrev pub chosen_of : List (List ℕ) → List ℕ → ℕ → Chosen
chosen_of links selected index = record {
  node = index;
  deps = deps_at links selected index;
}

abbrev pub modules_of : List (List ℕ) → List ℕ → Selected
modules_of links selected = record { modules = map (chosen_of links selected) selected }

abbrev pub unless : Option Refusal → Result Selected Refusal → Result Selected Refusal
unless None selected = selected
unless (Some refusal) selected = Err refusal

-- the selected modules, unless one of them is refused
abbrev pub selected_among : RootOverrides
    → List GraphNode
    → List (List ℕ)
    → List ℕ
    → Result Selected Refusal
selected_among overrides nodes links selected =
    unless (first_refusal overrides nodes [] selected) (Ok (modules_of links selected))

-- the selected modules of a graph by the root's overrides: first a listed version that was not
-- discovered is refused, then the first module in module order
abbrev pub selected_of : Graph → RootOverrides → Result Selected Refusal
selected_of graph overrides =
    unless (first_absent overrides graph.nodes (names_of overrides))
    (selected_among overrides graph.nodes (links overrides graph.nodes) (indexes overrides
    graph.nodes))

-- the selected module of a key
abbrev pub is_module : List GraphNode → Key → Chosen → Bool
is_module nodes key chosen = option_map_or (has_key key) (slice_get nodes chosen.node) false

abbrev pub module_of : Selected → Graph → Key → Option ℕ
module_of selected graph key = position (is_module graph.nodes key) selected.modules
