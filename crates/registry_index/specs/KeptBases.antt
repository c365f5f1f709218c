-- Base directories that were kept, beside a tree.
use Rattle.std.specs.Prelude.{◌≡◌, ℕ, Ok, All, List}
use Rattle.bz_base.specs.declared.module_key.Key.{Key}
use Rattle.bz_tree.specs.Places.{Files}
use Rattle.registry_index.specs.AskedFiles.{Asked, Reading, after_steps}
use Rattle.registry_index.specs.Sources.{base_read, source_of}
use Rattle.registry_index.specs.declared.asked_files.RegistryBase.{RegistryBase}
use Rattle.registry_index.specs.declared.registries.Source.{Source}

-- each is what the tree says of its registry, whichever module's source is asked for
abbrev pub AreKept : Files → List RegistryBase → Type 0
AreKept look bases =
    All (λ base. (key : Key) → (base_read look base.registry key).answer ≡ Ok base.directory) bases

-- the source of a module, where this was asked before
abbrev pub source_after : Files → List ℕ → Key → Asked → Reading Source
source_after look registry key asked = source_of look registry key asked.bases

-- the bases that are kept then
abbrev pub bases_after : Files → List ℕ → Key → Asked → List RegistryBase
bases_after look registry key asked =
    (after_steps look (source_after look registry key asked).steps asked).bases
