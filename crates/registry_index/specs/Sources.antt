-- Where the source of a registry's module is: Bazel, "Bazel registries", section "Index registry".
use Rattle.std.specs.Prelude.{ℕ, if◌then◌else◌, List, [], ◌∷◌, Option, None, Some, Result, Ok, Err}
use Rattle.std.specs.Prelude.{bytes_eq}
use Rattle.bz_base.specs.Keys.{key_text}
use Rattle.bz_base.specs.Paths.{joined}
use Rattle.bz_base.specs.Refusals.{refusal_of}
use Rattle.bz_base.specs.declared.module_key.Key.{Key}
use Rattle.bz_base.specs.declared.refusals.Code.TheVariants.{BadSource}
use Rattle.bz_base.specs.declared.refusals.Refusal.{Refusal}
use Rattle.bz_base.specs.declared.tree_path.BadPath.{BadPath}
use Rattle.bz_tree.specs.Places.{Files}
use Rattle.bz_tree.specs.declared.tree.Found.{Found}
use Rattle.bz_tree.specs.declared.tree.Found.TheVariants.{Bytes, Large, Listing, Absent}
use Rattle.source_files.specs.SourceFiles.{base_in, source_in}
use Rattle.source_files.specs.declared.source_file.BadSource as source_file
use Rattle.source_files.specs.declared.source_file.SourceFile.{SourceFile}
use Rattle.source_files.specs.declared.source_file.SourceFile.TheVariants.{Local, Remote}
use Rattle.registry_index.specs.AskedFiles.{Reading, and_then, ask, keep, settled}
use Rattle.registry_index.specs.Finding.{too_large_refusal}
use Rattle.registry_index.specs.Registries.{base_file, directory_of, source_file as file_of_source}
use Rattle.registry_index.specs.Registries.{url_of}
use Rattle.registry_index.specs.declared.asked_files.RegistryBase.{RegistryBase}
use Rattle.registry_index.specs.declared.registries.Source.{Source}
use Rattle.registry_index.specs.declared.registries.Source.TheVariants as source

-- the files don't say where the source is
abbrev pub bad_source_refusal : Key → Refusal
bad_source_refusal key = record (refusal_of BadSource) { detail = key_text key }

-- a directory, unless its path leads nowhere
abbrev pub directory_at : Key → Result (List ℕ) BadPath → Result (List ℕ) Refusal
directory_at key (Ok path) = Ok path
directory_at key (Err bad) = Err (bad_source_refusal key)

-- the base directory, from the registry's own on
abbrev pub base_from : Key
    → List ℕ
    → Result (Option (List ℕ)) source_file.BadSource
    → Result (List ℕ) Refusal
base_from key directory (Err bad) = Err (bad_source_refusal key)
base_from key directory (Ok None) = Ok directory
base_from key directory (Ok (Some base)) = directory_at key (joined directory base)

-- the base directory by what `bazel_registry.json` says; without this file it is the registry's own
abbrev pub base_found : List ℕ → Key → List ℕ → Found → Result (List ℕ) Refusal
base_found registry key directory (Bytes bytes) = base_from key directory (base_in bytes)
base_found registry key directory Large = Err (too_large_refusal (url_of (base_file registry)))
base_found registry key directory (Listing names) = Ok directory
base_found registry key directory Absent = Ok directory

abbrev pub base_below : List ℕ
    → Key
    → Found
    → Result (List ℕ) Refusal
    → Result (List ℕ) Refusal
base_below registry key found (Ok directory) = base_found registry key directory found
base_below registry key found (Err refusal) = Err refusal

unfoldable pub base_said : List ℕ → Key → Found → Result (List ℕ) Refusal
base_said registry key found =
    base_below registry key found (directory_at key (joined [] (directory_of registry)))

-- the base directory, read from the registry and kept
unfoldable pub base_read : Files → List ℕ → Key → Reading (List ℕ)
base_read look registry key =
    and_then (ask look (base_file registry)) (λ found. and_then (settled (base_said registry key
    found)) (keep registry))

-- the base directory that was kept of a registry
abbrev pub kept_base : List ℕ → List RegistryBase → Option (List ℕ)
kept_base registry [] = None
kept_base registry (base ∷ bases) =
    if bytes_eq registry base.registry then Some base.directory else kept_base registry bases

abbrev pub base_or_read : Files → List ℕ → Key → Option (List ℕ) → Reading (List ℕ)
base_or_read look registry key (Some directory) = settled (Ok directory)
base_or_read look registry key None = base_read look registry key

-- the base directory of a registry, which is read unless it was kept
abbrev pub kept_or_read : Files → List ℕ → Key → List RegistryBase → Reading (List ℕ)
kept_or_read look registry key bases =
    base_or_read look registry key (kept_base registry bases)

-- a local source
abbrev pub local_directory : Key → Result (List ℕ) Refusal → Result Source Refusal
local_directory key (Ok path) = Ok (source.Dir path)
local_directory key (Err refusal) = Err refusal

-- a local source, from the base on
abbrev pub local_at : Key → List ℕ → List ℕ → Result Source Refusal
local_at key base path = local_directory key (directory_at key (joined base path))

abbrev pub source_from : Key
    → List ℕ
    → Result SourceFile source_file.BadSource
    → Result Source Refusal
source_from key base (Ok (Local path)) = local_at key base path
source_from key base (Ok Remote) = Ok source.Remote
source_from key base (Err bad) = Err (bad_source_refusal key)

-- the source by what `source.json` says
abbrev pub source_found : List ℕ → Key → List ℕ → Found → Result Source Refusal
source_found registry key base (Bytes bytes) = source_from key base (source_in bytes)
source_found registry key base Large =
    Err (too_large_refusal (url_of (file_of_source registry key)))
source_found registry key base (Listing names) = Err (bad_source_refusal key)
source_found registry key base Absent = Err (bad_source_refusal key)

unfoldable pub source_read : Files → List ℕ → Key → List ℕ → Reading Source
source_read look registry key base =
    and_then (ask look (file_of_source registry key))
    (λ found. settled (source_found registry key base found))

-- the source of a module: the registry's base directory first, which is read unless it is kept
unfoldable pub source_of : Files → List ℕ → Key → List RegistryBase → Reading Source
source_of look registry key bases =
    and_then (kept_or_read look registry key bases)
    (source_read look registry key)
