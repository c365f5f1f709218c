-- Which discovered version stands for another: Bazel, "Bazel modules", sections "Version
-- selection", "Compatibility level" and "Multiple-version override".
use Rattle.std.specs.Prelude.{ℕ, Bool, if◌then◌else◌, ◌&&◌, not, nat_eq, List, filter_map, map}
use Rattle.std.specs.Prelude.{slice_get, Option, None, Some, bytes_eq}
use Rattle.std.specs.List.{list_all, list_any, position_from}
use Rattle.std.specs.Option.{option_map, option_map_or}
use Rattle.bz_base.specs.Keys.{same_key}
use Rattle.bz_base.specs.declared.declarations.OverrideKind.{OverrideKind}
use Rattle.bz_base.specs.declared.declarations.OverrideKind.TheVariants.{Single, Multiple, Local}
use Rattle.bz_base.specs.declared.declarations.OverrideKind.TheVariants.{Archive, Git}
use Rattle.bz_base.specs.declared.module_graph.GraphNode.{GraphNode}
use Rattle.bz_base.specs.declared.module_key.Key.{Key}
use Rattle.overrides.specs.Overrides.{RootOverrides, kind_of}
use Rattle.selection.specs.Selection.{is_superior}

-- the versions that an override lets stand side by side, if it is one of several versions
abbrev pub listed_of : Option OverrideKind → Option (List (List ℕ))
listed_of None = None
listed_of (Some (Single version registry patched)) = None
listed_of (Some (Multiple versions registry)) = Some versions
listed_of (Some (Local path)) = None
listed_of (Some Archive) = None
listed_of (Some Git) = None

-- the versions of a module that may stand side by side, where the root lists several
abbrev pub listed_for : RootOverrides → List ℕ → Option (List (List ℕ))
listed_for overrides name = listed_of (kind_of name overrides.kinds)

-- the node has a listed version
abbrev pub is_listed : List (List ℕ) → GraphNode → Bool
is_listed versions node = list_any (bytes_eq node.key.version) versions

-- the node is a version of the module of this name, at this level; the root is none
abbrev pub is_fellow : List ℕ → ℕ → GraphNode → Bool
is_fellow name level node =
    not node.root && (bytes_eq name node.key.name && nat_eq level node.decl.level)

-- of a lower version
abbrev pub is_inferior : GraphNode → GraphNode → Bool
is_inferior one other = is_superior other one

-- the index of a member of the nodes to which no member goes before
abbrev pub top : (GraphNode → Bool)
    → (GraphNode → GraphNode → Bool)
    → List GraphNode
    → Option ℕ
top member before nodes =
    position_from (λ node. member node
    && list_all (λ other. not (member other && before other node)) nodes) 0 nodes

-- the highest version of a module at a level
abbrev pub highest : List ℕ → ℕ → List GraphNode → Option ℕ
highest name level nodes = top (is_fellow name level) is_superior nodes

-- a listed version of the node's module and level that is at least the node's
abbrev pub is_fit : List (List ℕ) → GraphNode → GraphNode → Bool
is_fit versions node other =
    is_fellow node.key.name node.decl.level other
    && (is_listed versions other && not (is_superior node other))

-- the least of these
abbrev pub target : List (List ℕ) → GraphNode → List GraphNode → Option ℕ
target versions node nodes = top (is_fit versions node) is_inferior nodes

-- where the root lists versions of the node's module, its target; else the highest of its group
unfoldable pub picked : Option (List (List ℕ)) → GraphNode → List GraphNode → Option ℕ
picked None node nodes = highest node.key.name node.decl.level nodes
picked (Some versions) node nodes = target versions node nodes

-- the index of the choice of the node at an index: the root, and a node above all listed versions,
-- are groups of their own
abbrev pub choice_of : RootOverrides → List GraphNode → ℕ → GraphNode → ℕ
choice_of overrides nodes index node = if node.root then index
    else option_map_or (λ other. other) (picked (listed_for overrides node.key.name) node nodes)
    index

unfoldable pub choice_at : RootOverrides → List GraphNode → ℕ → ℕ
choice_at overrides nodes index = option_map_or (choice_of overrides nodes index)
    (slice_get nodes index) index

abbrev pub has_key : Key → GraphNode → Bool
has_key key node = same_key key node.key

-- the choice of a need, whose node is the one of its key
abbrev pub chosen : RootOverrides → List GraphNode → Key → Option ℕ
chosen overrides nodes need = option_map (choice_at overrides nodes)
    (position_from (has_key need) 0 nodes)

-- the choice of each need of a node, in order
abbrev pub links_of : RootOverrides → List GraphNode → GraphNode → List ℕ
links_of overrides nodes node = filter_map (chosen overrides nodes) node.needs

abbrev pub links : RootOverrides → List GraphNode → List (List ℕ)
links overrides nodes = map (links_of overrides nodes) nodes
