-- The names that a file may use and that nothing in it binds: the Starlark specification, "Built-in
-- constants and functions", and Bazel, ".bzl files" and "MODULE.bazel files".
use Rattle.std.specs.Prelude.{ℕ, Bool, ◌||◌, List, [], ◌∷◌, bytes_eq, codes}
use Rattle.std.specs.List.{list_any}
use Rattle.star_scopes.specs.declared.dialects.Dialect.{Dialect}
use Rattle.star_scopes.specs.declared.dialects.Dialect.TheVariants.{Extension, Module}

abbrev pub constants : List (List ℕ)
constants = codes "None" ∷ codes "True" ∷ codes "False" ∷ []

unfoldable pub functions : List (List ℕ)
functions =
    codes "abs" ∷ codes "all" ∷ codes "any" ∷ codes "bool" ∷ codes "dict" ∷ codes "enumerate" ∷
    codes "fail" ∷ codes "getattr"
    ∷ codes "hasattr" ∷ codes "int" ∷ codes "len" ∷ codes "list" ∷ codes "max" ∷ codes "min" ∷ codes
    "print" ∷ codes "range"
    ∷ codes "repr" ∷ codes "reversed" ∷ codes "sorted" ∷ codes "str" ∷ codes "tuple" ∷ codes "type"
    ∷ codes "zip" ∷ []

unfoldable pub extension_names : List (List ℕ)
extension_names =
    codes "Label" ∷ codes "attr" ∷ codes "module_extension" ∷ codes "repository_rule" ∷ codes
    "struct" ∷ codes "tag_class" ∷ codes "visibility" ∷ []

unfoldable pub directives : List (List ℕ)
directives =
    codes "module" ∷ codes "bazel_dep" ∷ codes "use_extension" ∷ codes "use_repo" ∷ codes
    "use_repo_rule" ∷ codes "override_repo" ∷ codes "inject_repo" ∷ codes "include"
    ∷ codes "single_version_override" ∷ codes "multiple_version_override" ∷ codes
    "local_path_override" ∷ codes "archive_override" ∷ codes "git_override" ∷ codes
    "register_toolchains" ∷ codes "register_execution_platforms" ∷ []

abbrev pub own_names : Dialect → List (List ℕ)
own_names Extension = extension_names
own_names Module = directives

abbrev pub is_among : List (List ℕ) → List ℕ → Bool
is_among names name = list_any (bytes_eq name) names

-- whether a dialect gives a name a meaning
unfoldable pub has_free : Dialect → List ℕ → Bool
has_free dialect name = is_among constants name
    || (is_among functions name || is_among (own_names dialect) name)
