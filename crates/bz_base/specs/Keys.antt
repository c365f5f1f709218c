-- Module keys, and how they are printed: Bazel, "Bazel modules".
use Rattle.std.specs.Prelude.{ℕ, Bool, if◌then◌else◌, ◌==◌, ◌&&◌, List, ◌++◌, length, codes}
use Rattle.std.specs.Prelude.{bytes_eq}
use Rattle.bz_base.specs.declared.module_graph.GraphNode.{GraphNode}
use Rattle.bz_base.specs.declared.module_key.Key.{Key}

-- one name and one version
abbrev pub same_key : Key → Key → Bool
same_key one other = bytes_eq one.name other.name && bytes_eq one.version other.version

-- a version as it is printed, with `_` for the empty one
abbrev pub version_text : List ℕ → List ℕ
version_text version = if length version == 0 then codes "_" else version

-- `NAME@VERSION`
abbrev pub key_text : Key → List ℕ
key_text key = key.name ++ codes "@" ++ version_text key.version

-- the key of a node as it is printed; the root's is `<root>`
abbrev pub node_text : GraphNode → List ℕ
node_text node = if node.root then codes "<root>" else key_text node.key
