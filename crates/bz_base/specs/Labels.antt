-- What holds of labels and of extensions.
use Rattle.std.specs.Prelude.{◌≡◌, ◌≢◌, ℕ, ◌&&◌, ◌||◌, ◌⊎◌, List, [], ◌++◌, take, IsTrue, bytes_eq}
use Rattle.std.specs.Prelude.{codes, All, AllPairs}
use Rattle.std.specs.Char.{is_ascii_digit}
use Rattle.std.specs.List.{list_all}
use Rattle.bz_base.specs.declared.labels.Label.{Label}
use Rattle.bz_base.specs.declared.extensions.ExtId.{ExtId}
use Rattle.bz_base.specs.Names.{is_canonical, is_identifier, is_package, is_repository_name}
use Rattle.bz_base.specs.Names.{is_segmented}

-- a canonical name, a package and a name; the top of a repository has neither package nor name
pub record IsLabel (label : Label) : Type 0 where
  pub repo_stands : IsTrue (is_canonical label.repo)
  pub package_stands : IsTrue (is_package label.package)
  pub name_stands : IsTrue
      (is_segmented label.name || (bytes_eq label.name [] && bytes_eq label.package []))

-- the name under which a file exports an extension is an identifier
pub record IsExtension (id : ExtId) : Type 0 where
  pub bzl_stands : IsLabel id.bzl
  pub name_stands : IsTrue (is_identifier id.name)

-- different extensions
pub record AreExtensions (ids : List ExtId) : Type 0 where
  pub each : All IsExtension ids
  pub differ : AllPairs (λ one other. one ≢ other) ids

-- the digits of a number from 2 on, as they are written
abbrev pub IsFurther : List ℕ → Type 0
IsFurther digits = IsTrue (list_all is_ascii_digit digits) × (take 1 digits ≢ codes "0")
    × (digits ≢ []) × (digits ≢ codes "1")

-- an extension's canonical name: its host's, `+` and the name that its file exports; the second and
-- later ones of one host and name have `.` and a number from 2 on behind it
pub record IsExtensionName (text : List ℕ) : Type 0 where
  pub host : List ℕ
  pub exported : List ℕ
  pub behind : List ℕ
  pub host_stands : IsTrue (is_canonical host)
  pub exported_stands : IsTrue (is_identifier exported)
  pub numbered : (behind ≡ [])
      ⊎ ((digits : List ℕ) × (behind ≡ codes "." ++ digits) × IsFurther digits)
  pub spelled : text ≡ host ++ codes "+" ++ exported ++ behind

-- the canonical name of a generated repository: its extension's, `+` and the name under which it
-- was declared
pub record IsGeneratedName (text : List ℕ) : Type 0 where
  pub extension : List ℕ
  pub declared : List ℕ
  pub extension_stands : IsExtensionName extension
  pub declared_stands : IsTrue (is_repository_name declared)
  pub spelled : text ≡ extension ++ codes "+" ++ declared
