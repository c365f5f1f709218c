-- The registries of a run: Bazel, "Bazel registries", section "Selecting registries".
use Rattle.std.specs.Prelude.{ℕ, if◌then◌else◌, List, Result, Ok, Err}
use Rattle.std.specs.List.{list_all}
use Rattle.registry_index.specs.AskedFiles.{Asked, nothing_asked}
use Rattle.registry_index.specs.Registries.{bad_registry, is_registry}
use Rattle.registry_index.specs.declared.registry_text.BadRegistry.{BadRegistry}

-- the texts that name the registries in order, and what was asked of them
pub record RegistryList : Type 0 where
  pub texts : List (List ℕ)
  pub asked : Asked

abbrev pub registries_named : List (List ℕ) → Result (List (List ℕ)) BadRegistry
registries_named texts = if list_all is_registry texts then Ok texts else Err bad_registry

abbrev pub unasked : Result (List (List ℕ)) BadRegistry → Result RegistryList BadRegistry
unasked (Ok texts) = Ok (record { texts = texts; asked = nothing_asked })
unasked (Err bad) = Err bad

-- registries of which nothing was asked, where each text names one
abbrev pub registries_of : List (List ℕ) → Result RegistryList BadRegistry
registries_of texts = unasked (registries_named texts)
