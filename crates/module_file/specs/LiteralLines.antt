-- The lines of a module file in the literal form: Bazel, "MODULE.bazel files", functions `module`
-- and `bazel_dep`, cut down to one way of writing them.
use Rattle.std.specs.Prelude.{ℕ, ◌==◌, ◌&&◌, if◌then◌else◌, List, [], ◌∷◌, length, Result, Ok, Err}
use Rattle.std.specs.Prelude.{codes, bytes_eq}
use Rattle.std.specs.List.{slice_split}
use Rattle.bz_base.specs.Names.{is_module_name}
use Rattle.bz_base.specs.declared.module_key.Key.{Key}
use Rattle.bz_version.specs.Scan.{version_of}
use Rattle.bz_version.specs.declared.versions.BadVersion.{BadVersion}
use Rattle.module_file.specs.declared.literal_line.LiteralLine.{LiteralLine}
use Rattle.module_file.specs.declared.literal_line.LiteralLine.TheVariants.{Empty, Module, Dep}
use Rattle.module_file.specs.declared.literal_line.NotLiteral.{NotLiteral}

abbrev pub not_literal : NotLiteral
not_literal = record {}

-- what stands between the quotes of a line
abbrev pub pieces_of : List ℕ → List (List ℕ)
pieces_of text = slice_split (λ b. b == 34) text

-- a key of a module name and of a version that isn't empty
abbrev pub key_with : List ℕ → Result (List ℕ) BadVersion → Result Key NotLiteral
key_with name (Ok version) = if length version == 0 then Err not_literal
    else Ok (record { name = name; version = version })
key_with name (Err bad) = Err not_literal

abbrev pub key_of : List ℕ → List ℕ → Result Key NotLiteral
key_of name written = if is_module_name name then key_with name (version_of written)
    else Err not_literal

-- a directive by its front
abbrev pub line_with : List ℕ → Result Key NotLiteral → Result LiteralLine NotLiteral
line_with front (Ok key) =
    if bytes_eq front (codes "module(name = ") then Ok (Module key)
    else (if bytes_eq front (codes "bazel_dep(name = ") then Ok (Dep key) else Err not_literal)
line_with front (Err missed) = Err not_literal

-- `FRONT"NAME", version = "VERSION")`, cut at its quotes
abbrev pub line_of_pieces : List (List ℕ) → Result LiteralLine NotLiteral
line_of_pieces (front ∷ name ∷ middle ∷ version ∷ tail ∷ []) =
    if bytes_eq middle (codes ", version = ")
    && bytes_eq tail (codes ")") then line_with front (key_of name version) else Err not_literal
line_of_pieces pieces = Err not_literal

-- the line that a text is, without its line feed
abbrev pub line_of : List ℕ → Result LiteralLine NotLiteral
line_of text = if length text == 0 then Ok Empty else line_of_pieces (pieces_of text)
