-- The grammar of module files in the literal form, as a relation of bytes and lines: Bazel,
-- "MODULE.bazel files", functions `module` and `bazel_dep`.
use Rattle.std.specs.Prelude.{◌≡◌, ◌≢◌, ℕ, ◌<◌, true, List, [], ◌∷◌, ◌++◌, Ok, codes}
use Rattle.std.specs.List.{AllByRecursion}
use Rattle.bz_base.specs.Names.{is_module_name}
use Rattle.bz_base.specs.declared.module_key.Key.{Key}
use Rattle.bz_version.specs.Scan.{version_of}
use Rattle.module_file.specs.declared.literal_line.LiteralLine.{LiteralLine}
use Rattle.module_file.specs.declared.literal_line.LiteralLine.TheVariants.{Empty, Module, Dep}

abbrev pub quote : ℕ
quote = 34

abbrev pub line_feed : ℕ
line_feed = 10

-- a text between quotes
abbrev pub quoted : List ℕ → List ℕ
quoted text = quote ∷ text ++ quote ∷ []

-- `FRONT"NAME", version = "VERSION")` of a module name and of a version that isn't empty; what is
-- read is the version without BUILD
pub record IsDirective (front : List ℕ) (key : Key) (text : List ℕ) : Type 0 where
  pub written : List ℕ
  pub name : is_module_name key.name ≡ true
  pub version : version_of written ≡ Ok key.version
  pub not_empty : key.version ≢ []
  pub spelled : text ≡ front ++ quoted key.name ++ codes ", version = " ++ quoted written
      ++ codes ")"

-- the text of a line, without its line feed
abbrev pub IsLine : LiteralLine → List ℕ → Type 0
IsLine Empty text = text ≡ []
IsLine (Module key) text = IsDirective (codes "module(name = ") key text
IsLine (Dep key) text = IsDirective (codes "bazel_dep(name = ") key text

-- the lines one after another, each with its line feed
abbrev pub IsFile : List LiteralLine → List ℕ → Type 0
IsFile [] bytes = bytes ≡ []
IsFile (line ∷ lines) bytes = (text rest : List ℕ) × IsLine line text
    × (bytes ≡ text ++ line_feed ∷ rest) × IsFile lines rest

-- before a `module` stand empty lines only: so there is at most one, and it is before every
-- `bazel_dep`
abbrev pub IsOrdered : List LiteralLine → Type 0
IsOrdered lines = (before after : List LiteralLine) (key : Key)
    → lines ≡ before ++ Module key ∷ after
    → AllByRecursion (λ line. line ≡ Empty) before

-- the bytes are a module file in the literal form, with these lines
pub record HasLiteralForm (bytes : List ℕ) (lines : List LiteralLine) : Type 0 where
  pub ascii : AllByRecursion (λ b. b < 128) bytes
  pub file : IsFile lines bytes
  pub order : IsOrdered lines
