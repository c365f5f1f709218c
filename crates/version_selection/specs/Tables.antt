-- The tables by which the code finds nodes and choices.
use Rattle.std.specs.Prelude.{◌≡◌, ℕ, Bool, false, ◌&&◌, not, nat_eq, List, slice_get, Option, find}
use Rattle.std.specs.Prelude.{None, Some, String, bytes_eq, string_bytes, if◌then◌else◌}
use Rattle.std.specs.List.{position_from}
use Rattle.std.specs.Map.{lookup}
use Rattle.std.specs.Option.{option_and_then, option_map, option_map_or, option_or}
use Rattle.std.specs.declared.alloc.Global.{Global}
use Rattle.bz_base.specs.declared.module_graph.GraphNode.{GraphNode}
use Rattle.bz_base.specs.declared.module_key.Key.{Key}
use Rattle.version_selection.specs.Choices.{has_key, highest}
use Rattle.version_selection.specs.Refusals.{is_named}

-- what stands beside a key
abbrev pub index_of_key : List ((String Global × String Global) × ℕ) → Key → Option ℕ
index_of_key entries key = lookup
    (λ one. bytes_eq key.name (string_bytes one.0) && bytes_eq key.version (string_bytes one.1))
    entries

-- beside each key stands the index of its node
abbrev pub HasKeys : List GraphNode → List ((String Global × String Global) × ℕ) → Type 0
HasKeys nodes entries = (key : Key)
    → index_of_key entries key ≡ position_from (has_key key) 0 nodes

-- what stands beside a name and a level
abbrev pub index_of_group : List ((String Global × ℕ) × ℕ) → List ℕ → ℕ → Option ℕ
index_of_group entries name level = lookup
    (λ one. bytes_eq name (string_bytes one.0) && nat_eq level one.1) entries

-- beside each name and level stands the index of the highest version
abbrev pub HasHighest : List GraphNode → List ((String Global × ℕ) × ℕ) → Type 0
HasHighest nodes entries = (name : List ℕ) (level : ℕ)
    → index_of_group entries name level ≡ highest name level nodes

-- a node that doesn't go before the choice so far leaves it
abbrev pub stays : (GraphNode → GraphNode → Bool)
    → List GraphNode
    → GraphNode
    → Option ℕ
    → Bool
stays before nodes node choice =
    option_map_or (λ index. option_map_or (λ other. not (before node other)) (slice_get nodes
    index) false) choice false

-- what stands beside a name
abbrev pub index_of_name : List (String Global × ℕ) → List ℕ → Option ℕ
index_of_name entries name = lookup (λ key. bytes_eq name (string_bytes key)) entries

-- the node whose index stands beside a name
abbrev pub node_of_name : List GraphNode → List (String Global × ℕ) → List ℕ → Option GraphNode
node_of_name nodes entries name =
    option_and_then (slice_get nodes) (index_of_name entries name)

-- beside each name stands the index of the first node of that name, which is there
abbrev pub HasFirsts : List GraphNode → List GraphNode → List (String Global × ℕ) → Type 0
HasFirsts nodes earlier entries = (name : List ℕ)
    → option_map (slice_get nodes) (index_of_name entries name)
    ≡ option_map Some (find (is_named name) earlier)

-- a name that has an index keeps it; else it takes this one
abbrev pub IsNoted : List (String Global × ℕ) → List (String Global × ℕ) → List ℕ → ℕ → Type 0
IsNoted entries more name index = (other : List ℕ)
    → index_of_name more other
    ≡ option_or (index_of_name entries other) (if bytes_eq other name then Some index else None)
