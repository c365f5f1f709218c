-- The selected modules: Bazel, "Bazel modules", section "Version selection": of the versions of a
-- module that are asked for the highest is chosen, and what the root then needs is selected.
use Rattle.std.specs.Prelude.{ℕ, Bool, true, false, ◌&&◌, not, nat_eq, List, [], ◌∷◌, length, map}
use Rattle.std.specs.Prelude.{filter_map, slice_get, Option, None, Result, Ok, Err, bytes_eq}
use Rattle.std.specs.List.{list_all, position_from}
use Rattle.std.specs.Option.{option_map_or}
use Rattle.std.specs.declared.cmp.Ordering.{Ordering}
use Rattle.std.specs.declared.cmp.Ordering.TheVariants.{Less, Equal, Greater}
use Rattle.bz_base.specs.declared.module_graph.Chosen.{Chosen}
use Rattle.bz_base.specs.declared.module_graph.Graph.{Graph}
use Rattle.bz_base.specs.declared.module_graph.GraphNode.{GraphNode}
use Rattle.bz_base.specs.declared.module_graph.Selected.{Selected}
use Rattle.bz_base.specs.declared.refusals.Refusal.{Refusal}
use Rattle.bz_version.specs.Precedence.{precedence}
use Rattle.bz_walks.specs.Walks.{Rules, Walk, Walked, levels, with_node}

-- the node is a version of the module of this name
abbrev pub is_member : List ℕ → GraphNode → Bool
is_member name node = bytes_eq name node.key.name

abbrev pub is_greater : Ordering → Bool
is_greater Less = false
is_greater Equal = false
is_greater Greater = true

-- of a higher version
abbrev pub is_superior : GraphNode → GraphNode → Bool
is_superior one other = is_greater (precedence one.key.version other.key.version)

-- no version of the module is higher
abbrev pub is_unsurpassed : List ℕ → List GraphNode → GraphNode → Bool
is_unsurpassed name nodes node = list_all
    (λ other. not (is_member name other && is_superior other node)) nodes

-- the highest requested version of the module of this name
abbrev pub is_choice : List ℕ → List GraphNode → GraphNode → Bool
is_choice name nodes node = is_member name node && is_unsurpassed name nodes node

-- the index of the highest requested version of a module among the nodes
abbrev pub choice : List ℕ → List GraphNode → Option ℕ
choice name nodes = position_from (is_choice name nodes) 0 nodes

-- the choice of each need, in order
abbrev pub chosen_needs : List GraphNode → GraphNode → List ℕ
chosen_needs nodes node = filter_map (λ need. choice need.name nodes) node.needs

-- the choice of each need of the node at an index
abbrev pub chosen_at : List GraphNode → ℕ → List ℕ
chosen_at nodes index = option_map_or (chosen_needs nodes) (slice_get nodes index) []

abbrev pub selection_rules : Rules ℕ Refusal
selection_rules = record { same = nat_eq; limit = λ known index. None }

abbrev pub selection : List GraphNode → Walk ℕ ℕ Refusal
selection nodes = record
    { rules = selection_rules; read = λ index. Ok index; requests = chosen_at nodes }

-- level 0 is the root, the first node
abbrev pub first_alone : Walked ℕ ℕ
first_alone = record { known = 0 ∷ []; nodes = [] }

-- the indexes of the selected modules, in module order: the root and all further levels
unfoldable pub indexes_walked : List GraphNode → Result (Walked ℕ ℕ) Refusal
indexes_walked nodes = levels (selection nodes) (length nodes)
    (with_node (selection nodes) first_alone (Ok 0))

-- the indexes among the selected modules
abbrev pub indexes_in : List ℕ → List ℕ → List ℕ
indexes_in selected indexes = filter_map (λ index. position_from (nat_eq index) 0 selected) indexes

abbrev pub chosen_of : List GraphNode → List ℕ → ℕ → Chosen
chosen_of nodes selected index = record {
  node = index;
  deps = indexes_in selected
      (chosen_at nodes index);
}

abbrev pub selected_walked : List GraphNode → Result (Walked ℕ ℕ) Refusal → Result Selected Refusal
selected_walked nodes (Ok walked) = Ok
    (record { modules = map (chosen_of nodes walked.nodes) walked.nodes })
selected_walked nodes (Err refusal) = Err refusal

-- of no nodes nothing is selected
abbrev pub selected_of_nodes : List GraphNode → Result Selected Refusal
selected_of_nodes [] = Ok (record { modules = [] })
selected_of_nodes (node ∷ nodes) = selected_walked (node ∷ nodes) (indexes_walked (node ∷ nodes))

-- the selected modules of a graph, with their dependencies
abbrev pub selected_of : Graph → Result Selected Refusal
selected_of graph = selected_of_nodes graph.nodes
