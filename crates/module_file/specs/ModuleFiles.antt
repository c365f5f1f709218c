-- What a module file in the literal form declares: Bazel, "MODULE.bazel files", functions `module`
-- and `bazel_dep`, with the defaults of what is left out.
use Rattle.std.specs.Prelude.{ℕ, ◌+◌, false, List, [], ◌∷◌, Result, Ok, Err}
use Rattle.bz_base.specs.declared.declarations.Dep.{Dep}
use Rattle.bz_base.specs.declared.declarations.ModuleDecl.{ModuleDecl}
use Rattle.bz_base.specs.declared.module_key.Key.{Key}
use Rattle.bz_base.specs.declared.refusals.Refusal.{Refusal}
use Rattle.bz_base.specs.declared.refusals.Code.TheVariants.{Form}
use Rattle.bz_base.specs.Refusals.{refusal_of}
use Rattle.module_file.specs.LiteralForms.{literal_lines}
use Rattle.module_file.specs.declared.literal_line.LiteralLine.{LiteralLine}
use Rattle.module_file.specs.declared.literal_line.LiteralLine.TheVariants.{Empty, Module}
use Rattle.module_file.specs.declared.literal_line.LiteralLine.TheVariants.{Dep as DepLine}
use Rattle.module_file.specs.declared.literal_line.NotLiteral.{NotLiteral}

abbrev pub form_refusal : Refusal
form_refusal = refusal_of Form

-- the key of the `module` line; without one, name and version are empty
abbrev pub key_declared : List LiteralLine → Key
key_declared [] = record { name = []; version = [] }
key_declared (Empty ∷ lines) = key_declared lines
key_declared (Module key ∷ lines) = key
key_declared (DepLine key ∷ lines) = key_declared lines

-- a dependency goes by its module's name
abbrev pub dep_at : ℕ → Key → Dep
dep_at line key = record
    { name = key.name; version = key.version; apparent = key.name; dev = false; line = line }

-- the dependencies of the lines from a number on
abbrev pub deps_from : ℕ → List LiteralLine → List Dep
deps_from line [] = []
deps_from line (Empty ∷ lines) = deps_from (line + 1) lines
deps_from line (Module key ∷ lines) = deps_from (line + 1) lines
deps_from line (DepLine key ∷ lines) = dep_at line key ∷ deps_from (line + 1) lines

abbrev pub declared_with : Key → List Dep → ModuleDecl
declared_with key deps =
    record {
      name = key.name;
      version = key.version;
      level = 0;
      repo_name = key.name;
      deps = deps;
      nodeps = [];
      parts = [];
      overrides = [];
    }

abbrev pub declared_by : Result (List LiteralLine) NotLiteral → Result ModuleDecl Refusal
declared_by (Ok lines) = Ok (declared_with (key_declared lines) (deps_from 1 lines))
declared_by (Err missed) = Err form_refusal

-- what a file's bytes declare; what hasn't the literal form is refused
abbrev pub declared_in : List ℕ → Result ModuleDecl Refusal
declared_in bytes = declared_by (literal_lines bytes)
