-- What choices and selection come to.
use Rattle.std.specs.Prelude.{◌≡◌, ◌≢◌, ℕ, Bool, List, slice_get, Some, All, IsSomeAnd, IsTrue}
use Rattle.std.specs.List.{AllZip}
use Rattle.std.specs.declared.cmp.Ordering.TheVariants.{Greater}
use Rattle.bz_base.specs.Graphs.{IsSelectedOf}
use Rattle.bz_base.specs.declared.module_graph.Chosen.{Chosen}
use Rattle.bz_base.specs.declared.module_graph.Graph.{Graph}
use Rattle.bz_base.specs.declared.module_graph.GraphNode.{GraphNode}
use Rattle.bz_base.specs.declared.module_graph.Selected.{Selected}
use Rattle.bz_base.specs.declared.module_key.Key.{Key}
use Rattle.bz_version.specs.Precedence.{precedence}
use Rattle.selection.specs.Selection.{choice, chosen_at}

-- at the index stands a node of the name, and no node of the name has a higher version
pub record IsHighest (name : List ℕ) (nodes : List GraphNode) (index : ℕ) : Type 0 where
  pub node : GraphNode
  pub there : slice_get nodes index ≡ Some node
  pub named : node.key.name ≡ name
  pub highest : All (λ other. other.key.name ≡ name → precedence other.key.version node.key.version
      ≢ Greater) nodes

-- no node has the name
abbrev pub HasNone : List ℕ → List GraphNode → Type 0
HasNone name nodes = All (λ node. node.key.name ≢ name) nodes

-- at the index stands the selected module whose node is the choice of the need
abbrev pub NamesChoice : List GraphNode → List Chosen → ℕ → Key → Type 0
NamesChoice nodes modules index need = IsSomeAnd (slice_get modules index)
    (λ needed. choice need.name nodes ≡ Some needed.node)

-- the dependencies of a selected module name the choices of its node's needs, in order
pub record HasChosenDeps (nodes : List GraphNode) (modules : List Chosen)
    (chosen : Chosen) : Type 0 where
  pub node : GraphNode
  pub there : slice_get nodes chosen.node ≡ Some node
  pub named : AllZip (NamesChoice nodes modules) chosen.deps node.needs

-- where the test holds of a selected module's node, it holds of the choice of each of its needs
abbrev pub HoldsOnChoices : (ℕ → Bool) → List GraphNode → List Chosen → Type 0
HoldsOnChoices holds nodes modules = All
    (λ chosen. IsTrue (holds chosen.node)
    → All (λ index. IsTrue (holds index)) (chosen_at nodes chosen.node)) modules

-- the root and all choices of the needs of what is selected, and nothing but those: each set with
-- the first index and all choices of its members' needs has each selected node's index
pub record IsSelection (graph : Graph) (selected : Selected) : Type 0 where
  pub selected_is : IsSelectedOf graph selected
  pub chosen : All (HasChosenDeps graph.nodes selected.modules) selected.modules
  pub least : (holds : ℕ → Bool)
      → IsTrue (holds 0)
      → HoldsOnChoices holds graph.nodes selected.modules
      → All (λ chosen. IsTrue (holds chosen.node)) selected.modules
