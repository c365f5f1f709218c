-- Registries by the texts that name them, and where their files are: Bazel, "Bazel registries",
-- section "Index registry".
use Rattle.std.specs.Prelude.{ℕ, Bool, true, false, ◌&&◌, not, if◌then◌else◌, List, [], ◌++◌}
use Rattle.std.specs.Prelude.{Option, None, Some, Result, Ok, Err, codes, bytes_eq}
use Rattle.std.specs.List.{list_all}
use Rattle.std.specs.Option.{unwrap_or}
use Rattle.bz_base.specs.Keys.{key_text}
use Rattle.bz_base.specs.Paths.{is_rooted, joined}
use Rattle.bz_base.specs.declared.module_key.Key.{Key}
use Rattle.bz_base.specs.declared.tree_path.BadPath.{BadPath}
use Rattle.bz_tree.specs.Places.{stripped}
use Rattle.registry_index.specs.declared.registry_text.BadRegistry.{BadRegistry}

-- what stands behind `file://%workspace%/`
unfoldable pub in_workspace : List ℕ → Option (List ℕ)
in_workspace text = stripped (codes "file://%workspace%/") text

-- what stands behind `file://`
unfoldable pub behind_scheme : List ℕ → Option (List ℕ)
behind_scheme text = stripped (codes "file://") text

abbrev pub is_same : List ℕ → Result (List ℕ) BadPath → Bool
is_same path (Ok other) = bytes_eq path other
is_same path (Err bad) = false

-- a path that is not empty, and that a join leaves as it is
unfoldable pub is_registry_path : List ℕ → Bool
is_registry_path path = not (bytes_eq path []) && is_same path (joined [] path)

-- a path from the workspace on
abbrev pub is_relative_registry : List ℕ → Bool
is_relative_registry path = is_registry_path path && not (is_rooted path)

-- a path from `/` on, and not `/` itself
abbrev pub is_rooted_registry : Option (List ℕ) → Bool
is_rooted_registry None = false
is_rooted_registry (Some path) =
    is_registry_path path && is_rooted path && not (bytes_eq path (codes "/"))

abbrev pub is_registry_by : Option (List ℕ) → List ℕ → Bool
is_registry_by (Some path) text = is_relative_registry path
is_registry_by None text = is_rooted_registry (behind_scheme text)

-- `file://%workspace%/PATH` with a relative path, or `file://` and a path from `/` on
abbrev pub is_registry : List ℕ → Bool
is_registry text = is_registry_by (in_workspace text) text

-- that a text names no registry
abbrev pub bad_registry : BadRegistry
bad_registry = record {}

abbrev pub directory_by : Option (List ℕ) → List ℕ → List ℕ
directory_by (Some path) text = path
directory_by None text = unwrap_or (behind_scheme text) text

-- the directory of a registry, from the workspace or from `/` on
abbrev pub directory_of : List ℕ → List ℕ
directory_of text = directory_by (in_workspace text) text

-- a file of a registry: the text that names the registry, and the path below it
pub record FileOf : Type 0 where
  pub registry : List ℕ
  pub below : List ℕ

-- the name of a registry's file
unfoldable pub url_of : FileOf → List ℕ
url_of file = file.registry ++ codes "/" ++ file.below

-- the path of a registry's file, which leads nowhere where the registry's text doesn't name one
unfoldable pub path_text : FileOf → List ℕ
path_text file = directory_of file.registry ++ codes "/" ++ file.below

abbrev pub path_of : FileOf → Result (List ℕ) BadPath
path_of file = joined [] (path_text file)

-- the directory of a module version below its registry
unfoldable pub below_modules : Key → List ℕ → List ℕ
below_modules key name =
    codes "modules/" ++ key.name ++ codes "/" ++ key.version ++ codes "/" ++ name

-- what the module's own file, its source and the registry itself say stands in these files
abbrev pub module_file : List ℕ → Key → FileOf
module_file registry key =
    record { registry = registry; below = below_modules key (codes "MODULE.bazel") }

abbrev pub source_file : List ℕ → Key → FileOf
source_file registry key =
    record { registry = registry; below = below_modules key (codes "source.json") }

-- the name of the file in which a registry speaks of itself
unfoldable pub base_name : List ℕ
base_name = codes "bazel_registry.json"

abbrev pub base_file : List ℕ → FileOf
base_file registry = record { registry = registry; below = base_name }

-- the printed name of a module's file
abbrev pub printed_file : Key → List ℕ
printed_file key = key_text key ++ codes "/MODULE.bazel"
