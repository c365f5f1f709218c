-- What a module file's declarations are: Bazel, "MODULE.bazel files".
use Rattle.std.specs.Prelude.{◌≡◌, ◌≢◌, ℕ, ◌≤◌, ◌<◌, true, false, ◌&&◌, ◌||◌, not, List, [], ◌++◌}
use Rattle.std.specs.Prelude.{take, drop, Ok, IsOk, IsTrue, All, AllPairs, Any, codes, bytes_eq}
use Rattle.std.specs.Prelude.{◌⊎◌}
use Rattle.bz_version.specs.Scan.{version_of}
use Rattle.bz_base.specs.Names.{is_identifier, is_module_name, is_repository_name}
use Rattle.bz_base.specs.Paths.{joined}
use Rattle.bz_base.specs.PlainReading.{is_good, plain_depth}
use Rattle.bz_base.specs.declared.declarations.Dep.{Dep}
use Rattle.bz_base.specs.declared.declarations.Declared.{Declared}
use Rattle.bz_base.specs.declared.declarations.Import.{Import}
use Rattle.bz_base.specs.declared.declarations.ModuleDecl.{ModuleDecl}
use Rattle.bz_base.specs.declared.declarations.Override.{Override}
use Rattle.bz_base.specs.declared.declarations.OverrideKind.{OverrideKind}
use Rattle.bz_base.specs.declared.declarations.OverrideKind.TheVariants.{Single, Multiple, Local}
use Rattle.bz_base.specs.declared.declarations.OverrideKind.TheVariants.{Archive, Git}
use Rattle.bz_base.specs.declared.declarations.Part.{Part}
use Rattle.bz_base.specs.declared.declarations.Part.TheVariants as part
use Rattle.bz_base.specs.declared.declarations.RepoChange.{RepoChange}
use Rattle.bz_base.specs.declared.declarations.Tag.{Tag}
use Rattle.bz_base.specs.declared.declarations.Usage.{Usage}
use Rattle.bz_base.specs.declared.plain_values.Named.{Named}

-- the text of a version, as it is kept: without BUILD
abbrev pub IsVersionText : List ℕ → Type 0
IsVersionText text = version_of text ≡ Ok text

-- a dependency: its module, the version that it asks for, and the name by which the file calls it
pub record IsDep (dep : Dep) : Type 0 where
  pub module_named : IsTrue (is_module_name dep.name)
  pub version_stands : IsVersionText dep.version
  pub apparent_stands : IsTrue (is_repository_name dep.apparent)

-- a dependency by which the file calls nothing
pub record IsNodep (dep : Dep) : Type 0 where
  pub module_named : IsTrue (is_module_name dep.name)
  pub version_stands : IsVersionText dep.version
  pub nameless : dep.apparent ≡ []

-- attributes: good plain values, at most 16 deep, under names that differ
pub record AreAttrs (attrs : List Named) : Type 0 where
  pub good : All (λ attr. IsTrue (is_good attr.value) × (plain_depth attr.value ≤ 16)) attrs
  pub differ : AllPairs (λ one other. one.name ≢ other.name) attrs

pub record IsTag (tag : Tag) : Type 0 where
  pub class_named : IsTrue (is_identifier tag.class)
  pub attributes : AreAttrs tag.attrs

abbrev pub IsImport : Import → Type 0
IsImport one = IsTrue (is_repository_name one.apparent) × IsTrue (is_repository_name one.real)

abbrev pub IsRepoChange : RepoChange → Type 0
IsRepoChange change = IsTrue (is_repository_name change.real)
    × IsTrue (is_repository_name change.apparent)

-- an extension's exported name, which is no private one, and what the file says of it
pub record IsUsage (usage : Usage) : Type 0 where
  pub exported : IsTrue (is_identifier usage.name && not (bytes_eq (take 1 usage.name) (codes "_")))
  pub tags : All IsTag usage.tags
  pub imports : All IsImport usage.imports
  pub changes : All IsRepoChange usage.changes

abbrev pub IsPart : Part → Type 0
IsPart (part.Usage usage) = IsUsage usage
IsPart (part.Declared declared) = AreAttrs declared.attrs

-- the root of a registry in the workspace or on the file system, as a path that a join gives back
abbrev pub IsRegistryPath : List ℕ → Type 0
IsRegistryPath path = (path ≢ []) × (joined [] path ≡ Ok path)

-- `file://%workspace%/PATH` with a relative path, or `file://` and a path from `/` on
abbrev pub IsRegistry : List ℕ → Type 0
IsRegistry text =
    ((path : List ℕ) × (text ≡ codes "file://%workspace%/" ++ path) × IsRegistryPath path
    × (take 1 path ≢ codes "/"))
    ⊎ ((path : List ℕ) × (text ≡ codes "file://" ++ path) × IsRegistryPath path
    × (take 1 path ≡ codes "/") × (path ≢ codes "/"))

-- a registry that an override names, or none
abbrev pub IsRegistryOrNone : List ℕ → Type 0
IsRegistryOrNone text = (text ≡ []) ⊎ IsRegistry text

abbrev pub IsOverrideKind : OverrideKind → Type 0
IsOverrideKind (Single version registry patched) = IsVersionText version × IsRegistryOrNone registry
IsOverrideKind (Multiple versions registry) =
    All IsVersionText versions × Any (λ one. Any (λ other. one ≢ other) versions) versions
    × IsRegistryOrNone registry
IsOverrideKind (Local path) = IsOk (joined [] path)
IsOverrideKind Archive = Unit {0}
IsOverrideKind Git = Unit {0}

-- an override of another module than the root, which the root's file names
pub record IsOverrideOf (root : List ℕ) (one : Override) : Type 0 where
  pub module_named : IsTrue (is_module_name one.name)
  pub other_module : one.name ≢ root
  pub kind : IsOverrideKind one.kind

-- What the file of a module that is not the root declares.
pub record IsDeclared (decl : ModuleDecl) : Type 0 where
  pub named : (decl.name ≡ []) ⊎ IsTrue (is_module_name decl.name)
  pub version_stands : IsVersionText decl.version
  pub level_stands : decl.level ≤ 2147483647
  pub repo_named : (decl.repo_name ≡ decl.name) ⊎ IsTrue (is_repository_name decl.repo_name)
  pub deps : All IsDep decl.deps
  pub nodeps : All IsNodep decl.nodeps
  pub parts : All IsPart decl.parts

-- What the root's file declares: overrides too, one a module at the most.
pub record IsRootDeclared (decl : ModuleDecl) : Type 0 where
  pub declared : IsDeclared decl
  pub overrides : All (IsOverrideOf decl.name) decl.overrides
  pub override_once : AllPairs (λ one other. one.name ≢ other.name) decl.overrides
