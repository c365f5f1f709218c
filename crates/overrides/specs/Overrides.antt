-- What the root's overrides make of a dependency: Bazel, "MODULE.bazel files" and "Bazel modules",
-- section "Overrides". Overrides count in the root alone.
use Rattle.std.specs.Prelude.{◌≢◌, ℕ, ◌==◌, Bool, ◌&&◌, not, if◌then◌else◌, List, [], ◌∷◌, length}
use Rattle.std.specs.Prelude.{map, Option, None, Some, Result, Ok, Err, bytes_eq, AllPairs}
use Rattle.std.specs.Prelude.{String, string_bytes}
use Rattle.std.specs.declared.alloc.Global.{Global}
use Rattle.bz_base.specs.Refusals.{refusal_of}
use Rattle.bz_base.specs.declared.declarations.Dep.{Dep}
use Rattle.bz_base.specs.declared.declarations.ModuleDecl.{ModuleDecl}
use Rattle.bz_base.specs.declared.declarations.Override.{Override}
use Rattle.bz_base.specs.declared.declarations.OverrideKind.{OverrideKind}
use Rattle.bz_base.specs.declared.declarations.OverrideKind.TheVariants.{Single, Multiple, Local}
use Rattle.bz_base.specs.declared.declarations.OverrideKind.TheVariants.{Archive, Git}
use Rattle.bz_base.specs.declared.refusals.Code.TheVariants.{NoVersion}
use Rattle.bz_base.specs.declared.refusals.Refusal.{Refusal}
use Rattle.overrides.specs.declared.effective.Effective.{Effective}
use Rattle.overrides.specs.declared.effective.Effective.TheVariants.{Root, Module}

-- no module has two overrides, as a root's file that was read keeps it
abbrev pub NamesDiffer : List Override → Type 0
NamesDiffer overrides = AllPairs (λ one other. one.name ≢ other.name) overrides

-- the root's name, and by what each module is overridden, in the order of the root's file
pub record RootOverrides : Type 0 where
  pub root : List ℕ
  pub kinds : List (List ℕ × OverrideKind)

abbrev pub named_kind : Override → List ℕ × OverrideKind
named_kind one = (one.name, one.kind)

abbrev pub overrides_of : ModuleDecl → RootOverrides
overrides_of root =
    record {
      root = root.name;
      kinds = map named_kind root.overrides;
    }

-- the names of the overridden modules, in the order of the root's file
abbrev pub names_of : RootOverrides → List (List ℕ)
names_of overrides = map (λ one. one.0) overrides.kinds

-- the override of a module
abbrev pub kind_of : List ℕ → List (List ℕ × OverrideKind) → Option OverrideKind
kind_of name [] = None
kind_of name (one ∷ more) = if bytes_eq name one.0 then Some one.1 else kind_of name more

-- the overrides that are kept under owned texts
abbrev pub kinds_of : List (String Global × OverrideKind) → List (List ℕ × OverrideKind)
kinds_of entries = map (λ entry. (string_bytes entry.0, entry.1)) entries

-- a version that is given: the empty text is none
abbrev pub given : List ℕ → Option (List ℕ)
given version = if length version == 0 then None else Some version

-- the first version, where it is given, else the other
abbrev pub first_given : List ℕ → List ℕ → Option (List ℕ)
first_given version other = if length version == 0 then given other else Some version

-- the version for which a dependency asks under an override: a pinned one, the empty version of a
-- module that no registry gives, or else its own
abbrev pub version_under : Option OverrideKind → List ℕ → Option (List ℕ)
version_under None own = given own
version_under (Some (Single version registry patched)) own = first_given version own
version_under (Some (Multiple versions registry)) own = given own
version_under (Some (Local path)) own = Some []
version_under (Some Archive) own = Some []
version_under (Some Git) own = Some []

-- the refusal of a dependency that asks for no version, which has no place
abbrev pub no_version_refusal : List ℕ → Refusal
no_version_refusal name = record (refusal_of NoVersion) { detail = name }

abbrev pub module_at : List ℕ → Option (List ℕ) → Result Effective Refusal
module_at name None = Err (no_version_refusal name)
module_at name (Some version) = Ok (Module (record { name = name; version = version }))

-- a dependency on the root's own name, which is not empty
abbrev pub means_root : List ℕ → List ℕ → Bool
means_root root name = not (length root == 0) && bytes_eq name root

-- the module that a dependency means
unfoldable pub effective_of : RootOverrides → Dep → Result Effective Refusal
effective_of overrides dep =
    if means_root overrides.root dep.name then Ok Root
    else module_at dep.name (version_under (kind_of dep.name overrides.kinds) dep.version)
