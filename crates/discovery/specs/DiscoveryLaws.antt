-- What discovery comes to.
use Rattle.std.specs.Prelude.{◌≡◌, ℕ, Bool, false, List, [], ◌∷◌, Ok, All, IsTrue, codes}
use Rattle.bz_base.specs.Graphs.{IsGraph}
use Rattle.bz_base.specs.declared.declarations.ModuleDecl.{ModuleDecl}
use Rattle.bz_base.specs.declared.module_graph.Graph.{Graph}
use Rattle.bz_base.specs.declared.module_graph.GraphNode.{GraphNode}
use Rattle.bz_base.specs.declared.module_key.Key.{Key}
use Rattle.bz_tree.specs.declared.tree.Found.TheVariants.{Bytes}
use Rattle.discovery.specs.Discovery.{declared_as, found_for, node_with, root_key, root_node}
use Rattle.module_file.specs.ModuleFiles.{declared_in}
use Rattle.bz_tree.specs.Places.{Files}

-- what the default registry's file of the node's key declares
pub record IsFromRegistry (look : Files) (root : Key) (node : GraphNode) : Type 0 where
  pub bytes : List ℕ
  pub declaration : ModuleDecl
  pub found : found_for look node.key ≡ Bytes bytes
  pub declared : declared_as node.key (declared_in bytes) ≡ Ok declaration
  pub made : node ≡ node_with root node.key false (codes "file://%workspace%/registry") declaration

-- the root, and then what the registry's files declare
abbrev pub AreDeclared : Files → ModuleDecl → List GraphNode → Type 0
AreDeclared look decl [] = ⊥
AreDeclared look decl (node ∷ nodes) = (node ≡ root_node decl)
    × All (IsFromRegistry look (root_key decl)) nodes

-- where the test holds of a node's key, it holds of each of its needs
abbrev pub HoldsOnNeeds : (Key → Bool) → List GraphNode → Type 0
HoldsOnNeeds holds nodes = All
    (λ node. IsTrue (holds node.key) → All (λ need. IsTrue (holds need)) node.needs) nodes

-- a whole graph of what the root and the registry declare, and of nothing but what is needed: each
-- set with the root's key and all needs of its members has the key of each node
pub record IsDiscovery (look : Files) (decl : ModuleDecl) (graph : Graph) : Type 0 where
  pub graph_is : IsGraph graph
  pub declared : AreDeclared look decl graph.nodes
  pub least : (holds : Key → Bool)
      → IsTrue (holds (root_key decl))
      → HoldsOnNeeds holds graph.nodes
      → All (λ node. IsTrue (holds node.key)) graph.nodes
