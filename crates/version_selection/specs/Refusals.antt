-- What selection refuses, and in which order: Bazel, "Bazel modules", sections "Compatibility
-- level" and "Multiple-version override".
use Rattle.std.specs.Prelude.{ℕ, Bool, if◌then◌else◌, nat_eq, List, [], ◌∷◌, ◌++◌, slice_get, find}
use Rattle.std.specs.Prelude.{Option, None, Some, bytes_eq, codes}
use Rattle.std.specs.List.{cons_option, position_from}
use Rattle.std.specs.Option.{is_some, option_map_or}
use Rattle.bz_base.specs.Keys.{key_text}
use Rattle.bz_base.specs.Refusals.{refusal_of}
use Rattle.bz_base.specs.declared.module_graph.GraphNode.{GraphNode}
use Rattle.bz_base.specs.declared.module_key.Key.{Key}
use Rattle.bz_base.specs.declared.refusals.Code.{Code}
use Rattle.bz_base.specs.declared.refusals.Code.TheVariants.{AboveAllowed, Levels, NotInGraph}
use Rattle.bz_base.specs.declared.refusals.Refusal.{Refusal}
use Rattle.overrides.specs.Overrides.{RootOverrides, names_of}
use Rattle.version_selection.specs.Choices.{has_key, is_listed, listed_for}

-- the first of two refusals, either of which may be none
abbrev pub first_of : Option Refusal → Option Refusal → Option Refusal
first_of (Some refusal) later = Some refusal
first_of None later = later

-- a refusal without a place
abbrev pub refusal_with : Code → List ℕ → Refusal
refusal_with code detail = record (refusal_of code) { detail = detail }

abbrev pub not_in_graph_refusal : Key → Refusal
not_in_graph_refusal key = refusal_with NotInGraph (key_text key)

abbrev pub above_allowed_refusal : Key → Refusal
above_allowed_refusal key = refusal_with AboveAllowed (key_text key)

abbrev pub levels_refusal : Key → Key → Refusal
levels_refusal earlier key = refusal_with Levels (key_text earlier ++ codes " " ++ key_text key)

-- ---- listed versions that aren't there

-- a node has the key
abbrev pub is_discovered : List GraphNode → Key → Bool
is_discovered nodes key = is_some (position_from (has_key key) 0 nodes)

-- the first of the listed versions of a module that was not discovered
abbrev pub first_missing : List GraphNode → List ℕ → List (List ℕ) → Option Refusal
first_missing nodes name [] = None
first_missing nodes name (version ∷ versions) =
    if is_discovered nodes (record { name = name; version = version }) then first_missing nodes name
    versions
    else Some (not_in_graph_refusal (record { name = name; version = version }))

abbrev pub missing_of : List GraphNode → List ℕ → Option (List (List ℕ)) → Option Refusal
missing_of nodes name listed = option_map_or (first_missing nodes name) listed None

-- of the overridden modules, in the order of the root's file
abbrev pub first_absent : RootOverrides → List GraphNode → List (List ℕ) → Option Refusal
first_absent overrides nodes [] = None
first_absent overrides nodes (name ∷ names) = first_of
    (missing_of nodes name (listed_for overrides name)) (first_absent overrides nodes names)

-- ---- refusals of the walk

abbrev pub is_named : List ℕ → GraphNode → Bool
is_named name node = bytes_eq name node.key.name

-- another level than that of the first module of its name
abbrev pub level_beside : GraphNode → GraphNode → Option Refusal
level_beside other node = if nat_eq other.decl.level node.decl.level then None
    else Some (levels_refusal other.key node.key)

abbrev pub level_refusal : Option GraphNode → GraphNode → Option Refusal
level_refusal None node = None
level_refusal (Some other) node = level_beside other node

-- a version that the root doesn't list
abbrev pub unlisted_refusal : List (List ℕ) → GraphNode → Option Refusal
unlisted_refusal versions node = if is_listed versions node then None
    else Some (above_allowed_refusal node.key)

-- where the root lists versions, one that it doesn't list; else another level
unfoldable pub refusal_under : Option (List (List ℕ)) → Option GraphNode → GraphNode → Option Refusal
refusal_under (Some versions) other node = unlisted_refusal versions node
refusal_under None other node = level_refusal other node

-- the root is never refused
abbrev pub refusal_beside : RootOverrides → Option GraphNode → GraphNode → Option Refusal
refusal_beside overrides other node = if node.root then None
    else refusal_under (listed_for overrides node.key.name) other node

-- the first refusal of the nodes at some indexes in order, behind the nodes that stand earlier
abbrev pub first_refusal : RootOverrides
    → List GraphNode
    → List GraphNode
    → List ℕ
    → Option Refusal
first_refusal overrides nodes earlier [] = None
first_refusal overrides nodes earlier (index ∷ indexes) = first_of
    (option_map_or (λ node. refusal_beside overrides (find (is_named node.key.name) earlier) node)
    (slice_get nodes index) None)
    (first_refusal overrides nodes (earlier ++ cons_option (slice_get nodes index) []) indexes)
