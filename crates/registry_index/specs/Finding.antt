-- Which registry gives a module's file: Bazel, "Bazel registries", section "Selecting registries".
use Rattle.std.specs.Prelude.{ℕ, ◌==◌, if◌then◌else◌, List, [], ◌∷◌, length, Option, None, Some}
use Rattle.std.specs.Prelude.{Result, Ok, Err}
use Rattle.bz_base.specs.Keys.{key_text}
use Rattle.bz_base.specs.Refusals.{refusal_of}
use Rattle.bz_base.specs.declared.module_key.Key.{Key}
use Rattle.bz_base.specs.declared.refusals.Code.TheVariants.{NoModule, TooLarge}
use Rattle.bz_base.specs.declared.refusals.Refusal.{Refusal}
use Rattle.bz_tree.specs.Places.{Files}
use Rattle.bz_tree.specs.declared.tree.Found.{Found}
use Rattle.bz_tree.specs.declared.tree.Found.TheVariants.{Bytes, Large, Listing, Absent}
use Rattle.registry_index.specs.AskedFiles.{Reading, and_then, ask, settled}
use Rattle.registry_index.specs.Registries.{module_file, printed_file}
use Rattle.registry_index.specs.declared.registries.RegistryFile.{RegistryFile}

-- no registry has the module version; who asked for it gives the place
abbrev pub no_module_refusal : Key → Refusal
no_module_refusal key = record (refusal_of NoModule) { detail = key_text key }

-- a file that is too large, which is its own place
abbrev pub too_large_refusal : List ℕ → Refusal
too_large_refusal name = record (refusal_of TooLarge) { file = name; detail = name }

-- the module's file of one registry, where it has one
abbrev pub file_found : List ℕ → Key → Found → Result (Option RegistryFile) Refusal
file_found registry key (Bytes bytes) = Ok (Some (record { bytes = bytes; registry = registry }))
file_found registry key Large = Err (too_large_refusal (printed_file key))
file_found registry key (Listing names) = Ok None
file_found registry key Absent = Ok None

unfoldable pub file_in : Files → List ℕ → Key → Reading (Option RegistryFile)
file_in look registry key =
    and_then (ask look (module_file registry key))
    (λ found. settled (file_found registry key found))

-- a file that is found, or else what follows
abbrev pub first_of : Reading RegistryFile → Option RegistryFile → Reading RegistryFile
first_of further (Some file) = settled (Ok file)
first_of further None = further

-- the file of the first registry that has one
abbrev pub first_file : Files → Key → List (List ℕ) → Reading RegistryFile
first_file look key [] = settled (Err (no_module_refusal key))
first_file look key (registry ∷ registries) = and_then (file_in look registry key)
    (first_of (first_file look key registries))

-- the registry that an override names, or else all in order
abbrev pub registries_for : List ℕ → List (List ℕ) → List (List ℕ)
registries_for only registries = if length only == 0 then registries else only ∷ []

-- the file of a module, by the registry that its override names, or by all
abbrev pub file_of : Files → Key → List ℕ → List (List ℕ) → Reading RegistryFile
file_of look key only registries = first_file look key (registries_for only registries)
