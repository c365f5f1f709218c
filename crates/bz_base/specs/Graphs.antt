-- What holds of a graph of module versions, and of what is selected of it.
use Rattle.std.specs.Prelude.{◌≡◌, ◌≢◌, ◌<◌, false, List, [], ◌∷◌, length, map, slice_get, Option}
use Rattle.std.specs.Prelude.{Some, None, Result, Ok, Err, IsOk, IsTrue, IsSomeAnd, All, AllPairs}
use Rattle.std.specs.Prelude.{Any}
use Rattle.bz_base.specs.declared.declarations.Dep.{Dep}
use Rattle.bz_base.specs.declared.module_key.Key.{Key}
use Rattle.bz_base.specs.declared.refusals.Refusal.{Refusal}
use Rattle.bz_base.specs.declared.module_graph.Chosen.{Chosen}
use Rattle.bz_base.specs.declared.module_graph.Graph.{Graph}
use Rattle.bz_base.specs.declared.module_graph.GraphNode.{GraphNode}
use Rattle.bz_base.specs.declared.module_graph.Selected.{Selected}

-- the first node is the root, and no other is marked as it
abbrev pub RootIsFirst : List GraphNode → Type 0
RootIsFirst [] = ⊥
RootIsFirst (node ∷ nodes) = IsTrue node.root × All (λ other. other.root ≡ false) nodes

-- no two nodes have one key
abbrev pub KeysDiffer : List GraphNode → Type 0
KeysDiffer nodes = AllPairs (λ one other. one.key ≢ other.key) nodes

-- a node has one need per dependency of its declaration, in order
abbrev pub HasEachNeed : GraphNode → Type 0
HasEachNeed node = length node.needs ≡ length node.decl.deps

-- each need is the key of a node
abbrev pub HasItsNeeds : List GraphNode → GraphNode → Type 0
HasItsNeeds nodes node = All (λ need. Any (λ needed. needed.key ≡ need) nodes) node.needs

-- the root first, keys that differ, and nodes for what the nodes need
pub record IsGraph (graph : Graph) : Type 0 where
  pub root_first : RootIsFirst graph.nodes
  pub keys_differ : KeysDiffer graph.nodes
  pub each_need : All HasEachNeed graph.nodes
  pub needs_there : All (HasItsNeeds graph.nodes) graph.nodes

-- what a dependency means by the root's overrides: the root itself, where it is None, or a key; a
-- dependency whose version is missing is refused
abbrev pub Effects : Type 0
Effects = Dep → Result (Option Key) Refusal

-- the root's key stands for the root
abbrev pub key_meant : Key → Result (Option Key) Refusal → Result Key Refusal
key_meant root (Ok (Some key)) = Ok key
key_meant root (Ok None) = Ok root
key_meant root (Err refusal) = Err refusal

-- nothing stands for the root
abbrev pub keys_meant : List (Result (Option Key) Refusal) → List Key
keys_meant [] = []
keys_meant (Ok (Some key) ∷ effects) = key ∷ keys_meant effects
keys_meant (Ok None ∷ effects) = keys_meant effects
keys_meant (Err refusal ∷ effects) = keys_meant effects

-- each need of a node is the key that its dependency means, in order; its nodep keys are those of
-- its nodep dependencies that mean another module than the root, and none of them lacks a version
pub record NeedsAreEffective (effects : Effects) (root : Key) (node : GraphNode) : Type 0 where
  pub needs : map Ok node.needs ≡ map (λ dep. key_meant root (effects dep)) node.decl.deps
  pub nodeps : node.nodeps ≡ keys_meant (map effects node.decl.nodeps)
  pub versions_there : All (λ dep. IsOk (effects dep)) node.decl.nodeps

-- each nodep key whose module's name some node has is the key of a node
abbrev pub NodepsAreThere : List GraphNode → GraphNode → Type 0
NodepsAreThere nodes node =
    All (λ key. Any (λ named. named.key.name ≡ key.name) nodes
    → Any (λ needed. needed.key ≡ key) nodes) node.nodeps

-- a graph by what its dependencies mean
pub record IsGraphBy (effects : Effects) (root : Key) (graph : Graph) : Type 0 where
  pub graph_is : IsGraph graph
  pub effective : All (NeedsAreEffective effects root) graph.nodes
  pub nodeps_there : All (NodepsAreThere graph.nodes) graph.nodes

-- the first selected module is the graph's first node
abbrev pub BeginsAtRoot : List Chosen → Type 0
BeginsAtRoot [] = ⊥
BeginsAtRoot (chosen ∷ modules) = chosen.node ≡ 0

-- a selected module is a node of the graph, with one place per need of that node
abbrev pub IsChosenOf : List GraphNode → Chosen → Type 0
IsChosenOf nodes chosen = IsSomeAnd (slice_get nodes chosen.node)
    (λ node. length chosen.deps ≡ length node.needs)

-- the dependencies of each module are selected modules
abbrev pub DepsAreThere : List Chosen → Type 0
DepsAreThere modules = All (λ chosen. All (λ place. place < length modules) chosen.deps) modules

-- the root first, no node twice, and modules for what the modules need
pub record IsSelectedOf (graph : Graph) (selected : Selected) : Type 0 where
  pub root_first : BeginsAtRoot selected.modules
  pub nodes_differ : AllPairs (λ one other. one.node ≢ other.node) selected.modules
  pub nodes_there : All (IsChosenOf graph.nodes) selected.modules
  pub deps_there : DepsAreThere selected.modules
