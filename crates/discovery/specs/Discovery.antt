-- The discovered modules: Bazel, "Bazel modules", section "Version selection": every requirement of
-- every version that is asked for counts.
use Rattle.std.specs.Prelude.{ℕ, Bool, true, false, if◌then◌else◌, ◌&&◌, ◌==◌, not, nat_le, List}
use Rattle.std.specs.Prelude.{[], ◌∷◌, ◌++◌, length, map, Option, None, Some, Result, Ok, Err}
use Rattle.std.specs.Prelude.{codes, bytes_eq}
use Rattle.bz_base.specs.Refusals.{refusal_of}
use Rattle.bz_base.specs.Paths.{joined}
use Rattle.bz_base.specs.declared.declarations.Dep.{Dep}
use Rattle.bz_base.specs.declared.declarations.ModuleDecl.{ModuleDecl}
use Rattle.bz_base.specs.declared.module_graph.Graph.{Graph}
use Rattle.bz_base.specs.declared.module_graph.GraphNode.{GraphNode}
use Rattle.bz_base.specs.declared.module_key.Key.{Key}
use Rattle.bz_base.specs.declared.refusals.Refusal.{Refusal}
use Rattle.bz_base.specs.declared.refusals.Code.TheVariants.{NoModule, TooMany}
use Rattle.bz_base.specs.declared.tree_path.BadPath.{BadPath}
use Rattle.bz_tree.specs.declared.tree.Found.{Found}
use Rattle.bz_tree.specs.declared.tree.Found.TheVariants.{Bytes, Large, Listing, Absent}
use Rattle.bz_base.specs.Keys.{key_text, node_text, same_key}
use Rattle.module_file.specs.ModuleFiles.{declared_in, form_refusal}
use Rattle.bz_tree.specs.Places.{Files}
use Rattle.bz_walks.specs.Walks.{Rules, Walk, Walked, levels, with_node}
use Rattle.discovery.specs.declared.requests.Request.{Request}

-- the most keys of a graph, the root's among them
abbrev pub most_keys : ℕ
most_keys = 16384

-- more keys than a graph may have
abbrev pub too_many_refusal : Refusal
too_many_refusal = refusal_of TooMany

-- no file of the module that is asked for, at the line that asks
abbrev pub no_module_refusal : Request → Refusal
no_module_refusal request = record {
  code = NoModule;
  file = request.file;
  line = request.line;
  detail = key_text request.key;
  hint
      = 0;
}

-- a dependency on the root's own name means the root, if it has one
abbrev pub means_root : Key → Dep → Bool
means_root root dep = not (length root.name == 0) && bytes_eq dep.name root.name

-- the key that a dependency means
abbrev pub effective : Key → Dep → Key
effective root dep = if means_root root dep then root
    else record { name = dep.name; version = dep.version }

-- the printed name of a node's module file
abbrev pub file_text : GraphNode → List ℕ
file_text node = node_text node ++ codes "/MODULE.bazel"

abbrev pub request_of : Key → List ℕ → Dep → Request
request_of root file dep = record { key = effective root dep; file = file; line = dep.line }

-- what a node asks for, one request per dependency, in order of declaration
abbrev pub requests_of : Key → GraphNode → List Request
requests_of root node = map (request_of root (file_text node)) node.decl.deps

-- requests for one key are one; no key may stand behind the most of them
abbrev pub limit_of : List Request → Request → Option Refusal
limit_of known request = if nat_le most_keys (length known) then Some too_many_refusal else None

abbrev pub discovery_rules : Rules Request Refusal
discovery_rules = record { same = λ one other. same_key one.key other.key; limit = limit_of }

-- where the default registry has a module's file
abbrev pub registry_text : Key → List ℕ
registry_text key = codes "registry/modules/" ++ key.name ++ codes "/" ++ key.version
    ++ codes "/MODULE.bazel"

abbrev pub found_at : Files → Result (List ℕ) BadPath → Found
found_at look (Ok path) = look path
found_at look (Err bad) = Absent

-- what stands where a text leads from the workspace; nothing where it leads nowhere
abbrev pub found_by : Files → List ℕ → Found
found_by look text = found_at look (joined [] text)

-- what stands where the default registry has a module's file
unfoldable pub found_for : Files → Key → Found
found_for look key = found_by look (registry_text key)

-- a registry's file declares its key's name and version
abbrev pub declares : Key → ModuleDecl → Bool
declares key decl = bytes_eq decl.name key.name && bytes_eq decl.version key.version

abbrev pub declared_as : Key → Result ModuleDecl Refusal → Result ModuleDecl Refusal
declared_as key (Ok decl) = if declares key decl then Ok decl else Err form_refusal
declared_as key (Err refusal) = Err refusal

-- what the registry's file declares; a directory in its place counts as absent
abbrev pub registry_decl : Request → Found → Result ModuleDecl Refusal
registry_decl request Absent = Err (no_module_refusal request)
registry_decl request (Listing names) = Err (no_module_refusal request)
registry_decl request Large = Err form_refusal
registry_decl request (Bytes bytes) = declared_as request.key (declared_in bytes)

abbrev pub node_with : Key → Key → Bool → List ℕ → ModuleDecl → GraphNode
node_with root key is_root registry decl =
    record {
      key = key;
      root = is_root;
      decl = decl;
      needs = map
          (effective root) decl.deps;
      nodeps = [];
      registry = registry;
    }

abbrev pub registry_node : Key → Request → Result ModuleDecl Refusal → Result GraphNode Refusal
registry_node root request (Ok decl) = Ok
    (node_with root request.key false (codes "file://%workspace%/registry") decl)
registry_node root request (Err refusal) = Err refusal

-- the module for which a request asks
abbrev pub node_of : Key → Request → Found → Result GraphNode Refusal
node_of root request found = registry_node root request (registry_decl request found)

abbrev pub discovery : Files → Key → Walk Request GraphNode Refusal
discovery look root =
    record {
      rules = discovery_rules;
      read = λ request. node_of root request
          (found_for look request.key);
      requests = requests_of root;
    }

abbrev pub root_key : ModuleDecl → Key
root_key decl = record { name = decl.name; version = decl.version }

abbrev pub root_node : ModuleDecl → GraphNode
root_node decl = node_with (root_key decl) (root_key decl) true [] decl

abbrev pub root_request : Key → Request
root_request root = record { key = root; file = []; line = 0 }

-- level 0
abbrev pub root_alone : Key → Walked Request GraphNode
root_alone root = record { known = root_request root ∷ []; nodes = [] }

abbrev pub graph_walked : Result (Walked Request GraphNode) Refusal → Result Graph Refusal
graph_walked (Ok walked) = Ok (record { nodes = walked.nodes })
graph_walked (Err refusal) = Err refusal

-- the root and all further levels, or the first refusal; a level that isn't empty has a key, so
-- that there are no more levels than keys
unfoldable pub discovered : Files → ModuleDecl → Result Graph Refusal
discovered look decl =
    graph_walked (levels (discovery look (root_key decl)) most_keys (with_node (discovery look
    (root_key decl)) (root_alone (root_key decl)) (Ok (root_node decl))))
