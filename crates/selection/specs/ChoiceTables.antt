-- The choice of each group, by its name.
use Rattle.std.specs.Prelude.{◌≡◌, ℕ, Bool, false, not, List, slice_get, Option, String, bytes_eq}
use Rattle.std.specs.Prelude.{string_bytes}
use Rattle.std.specs.Map.{lookup}
use Rattle.std.specs.Option.{option_map_or}
use Rattle.std.specs.declared.alloc.Global.{Global}
use Rattle.bz_base.specs.declared.module_graph.GraphNode.{GraphNode}
use Rattle.selection.specs.Selection.{choice, is_superior}

-- the index that stands beside a name
abbrev pub listed : List (String Global × ℕ) → List ℕ → Option ℕ
listed entries name = lookup (λ key. bytes_eq name (string_bytes key)) entries

-- beside each name stands the index of its group's choice, and beside that of no group nothing
abbrev pub HasChoices : List GraphNode → List (String Global × ℕ) → Type 0
HasChoices nodes entries = (name : List ℕ) → listed entries name ≡ choice name nodes

-- a node that is not superior to the choice so far leaves it
abbrev pub is_kept : List GraphNode → GraphNode → Option ℕ → Bool
is_kept nodes node chosen =
    option_map_or (λ index. option_map_or (λ other. not (is_superior node other)) (slice_get nodes
    index) false) chosen false
