-- The directives of a module file and the table of their parameters: Bazel, "MODULE.bazel files".
use Rattle.std.specs.Prelude.{ℕ, Bool, true, false, List, [], ◌∷◌, codes, Option, Some, None}
use Rattle.std.specs.Prelude.{bytes_eq, if◌then◌else◌}
use Rattle.star_library.specs.declared.arguments.Ways.{Ways}
use Rattle.star_library.specs.declared.arguments.Ways.TheVariants as ways
use Rattle.module_arguments.specs.declared.directives.Directive.{Directive}
use Rattle.module_arguments.specs.declared.directives.Directive.TheVariants as directive
use Rattle.module_arguments.specs.declared.directives.Shape.{Shape}
use Rattle.module_arguments.specs.declared.parameters.Kind.{Kind}
use Rattle.module_arguments.specs.declared.parameters.Kind.TheVariants as kind
use Rattle.module_arguments.specs.declared.parameters.NameKind.TheVariants as name
use Rattle.module_arguments.specs.declared.parameters.Parameter.{Parameter}
use Rattle.module_arguments.specs.declared.parameters.ParameterName.{ParameterName}
use Rattle.module_arguments.specs.declared.parameters.ParameterName.TheVariants as parameter
use Rattle.module_arguments.specs.declared.parameters.TextKind.TheVariants as text

-- a parameter's name as it is written at a call
unfoldable pub name_text : ParameterName → List ℕ
name_text parameter.BazelCompatibility = codes "bazel_compatibility"
name_text parameter.CompatibilityLevel = codes "compatibility_level"
name_text parameter.DevDependency = codes "dev_dependency"
name_text parameter.ExtensionBzlFile = codes "extension_bzl_file"
name_text parameter.ExtensionName = codes "extension_name"
name_text parameter.Isolate = codes "isolate"
name_text parameter.MaxCompatibilityLevel = codes "max_compatibility_level"
name_text parameter.ModuleName = codes "module_name"
name_text parameter.Name = codes "name"
name_text parameter.PatchCmds = codes "patch_cmds"
name_text parameter.PatchStrip = codes "patch_strip"
name_text parameter.Patches = codes "patches"
name_text parameter.Path = codes "path"
name_text parameter.Proxy = codes "proxy"
name_text parameter.Registry = codes "registry"
name_text parameter.RepoName = codes "repo_name"
name_text parameter.RepoRuleBzlFile = codes "repo_rule_bzl_file"
name_text parameter.RepoRuleName = codes "repo_rule_name"
name_text parameter.Version = codes "version"
name_text parameter.Versions = codes "versions"

-- the name under which a directive is called
unfoldable pub directive_name : Directive → List ℕ
directive_name directive.ArchiveOverride = codes "archive_override"
directive_name directive.BazelDep = codes "bazel_dep"
directive_name directive.GitOverride = codes "git_override"
directive_name directive.Include = codes "include"
directive_name directive.InjectRepo = codes "inject_repo"
directive_name directive.LocalPathOverride = codes "local_path_override"
directive_name directive.Module = codes "module"
directive_name directive.MultipleVersionOverride = codes "multiple_version_override"
directive_name directive.OverrideRepo = codes "override_repo"
directive_name directive.RegisterExecutionPlatforms = codes "register_execution_platforms"
directive_name directive.RegisterToolchains = codes "register_toolchains"
directive_name directive.SingleVersionOverride = codes "single_version_override"
directive_name directive.UseExtension = codes "use_extension"
directive_name directive.UseRepo = codes "use_repo"
directive_name directive.UseRepoRule = codes "use_repo_rule"

-- the directives that have names
unfoldable pub all_directives : List Directive
all_directives =
    directive.ArchiveOverride ∷ directive.BazelDep ∷ directive.GitOverride ∷ directive.Include ∷
    directive.InjectRepo ∷ directive.LocalPathOverride ∷ directive.Module ∷
    directive.MultipleVersionOverride ∷ directive.OverrideRepo ∷
    directive.RegisterExecutionPlatforms ∷ directive.RegisterToolchains ∷
    directive.SingleVersionOverride ∷ directive.UseExtension ∷ directive.UseRepo ∷
    directive.UseRepoRule ∷ []

-- the directive of a name among others
abbrev pub directive_among : List Directive → List ℕ → Option Directive
directive_among [] name = None
directive_among (one ∷ more) name =
    if bytes_eq (directive_name one) name then Some one else directive_among more name

abbrev pub directive_of : List ℕ → Option Directive
directive_of name = directive_among all_directives name

abbrev pub parameter_of : ParameterName → Bool → Ways → Kind → Parameter
parameter_of name needed ways kind =
    record { name = name; needed = needed; ways = ways; kind = kind }

-- a parameter that has to be given, and one that may be left out, by position or by name
abbrev pub needed : ParameterName → Kind → Parameter
needed name kind = parameter_of name true ways.Either kind

abbrev pub optional : ParameterName → Kind → Parameter
optional name kind = parameter_of name false ways.Either kind

-- the same of parameters that are given by name alone
abbrev pub named : ParameterName → Kind → Parameter
named name kind = parameter_of name false ways.Name kind

abbrev pub needed_name : ParameterName → Kind → Parameter
needed_name name kind = parameter_of name true ways.Name kind

-- a parameter that is given by position alone
abbrev pub placed : ParameterName → Kind → Parameter
placed name kind = parameter_of name true ways.Position kind

-- the parameters of a directive in order
unfoldable pub parameters_of : Directive → List Parameter
parameters_of directive.ArchiveOverride =
    needed parameter.ModuleName (kind.Text (text.Name name.Module)) ∷ []
parameters_of directive.BazelDep =
    needed parameter.Name (kind.Text (text.Name name.Module))
    ∷ optional parameter.Version (kind.Text text.Version)
    ∷ optional parameter.MaxCompatibilityLevel kind.NoMaximum
    ∷ optional parameter.RepoName (kind.TextOrNone (text.Name name.Repository))
    ∷ optional parameter.DevDependency kind.Flag ∷ []
parameters_of directive.GitOverride =
    needed parameter.ModuleName (kind.Text (text.Name name.Module)) ∷ []
parameters_of directive.Include = []
parameters_of directive.InjectRepo =
    placed parameter.Proxy kind.Proxy ∷ []
parameters_of directive.LocalPathOverride =
    needed parameter.ModuleName (kind.Text (text.Name name.Module))
    ∷ needed parameter.Path (kind.Text text.Path) ∷ []
parameters_of directive.Module =
    optional parameter.Name (kind.Text (text.Name name.Own))
    ∷ optional parameter.Version (kind.Text text.Version)
    ∷ optional parameter.CompatibilityLevel kind.Level
    ∷ optional parameter.RepoName (kind.Text (text.Name name.Repository))
    ∷ optional parameter.BazelCompatibility kind.Texts ∷ []
parameters_of directive.MultipleVersionOverride =
    needed parameter.ModuleName (kind.Text (text.Name name.Module))
    ∷ needed parameter.Versions kind.Versions
    ∷ optional parameter.Registry (kind.Text text.Registry) ∷ []
parameters_of directive.OverrideRepo =
    placed parameter.Proxy kind.Proxy ∷ []
parameters_of directive.RegisterExecutionPlatforms =
    named parameter.DevDependency kind.Flag ∷ []
parameters_of directive.RegisterToolchains =
    named parameter.DevDependency kind.Flag ∷ []
parameters_of directive.SingleVersionOverride =
    needed parameter.ModuleName (kind.Text (text.Name name.Module))
    ∷ optional parameter.Version (kind.Text text.Version)
    ∷ optional parameter.Registry (kind.Text text.Registry)
    ∷ optional parameter.Patches kind.Texts
    ∷ optional parameter.PatchCmds kind.Texts
    ∷ optional parameter.PatchStrip kind.Integer ∷ []
parameters_of directive.UseExtension =
    needed parameter.ExtensionBzlFile (kind.Text text.Any)
    ∷ needed parameter.ExtensionName (kind.Text (text.Name name.Exported))
    ∷ named parameter.DevDependency kind.Flag
    ∷ named parameter.Isolate kind.Unset ∷ []
parameters_of directive.UseRepo =
    placed parameter.Proxy kind.Proxy ∷ []
parameters_of directive.UseRepoRule =
    needed parameter.RepoRuleBzlFile (kind.Text text.Any)
    ∷ needed parameter.RepoRuleName (kind.Text text.Any) ∷ []

-- the parameters of a call that declares a repository
unfoldable pub repository_parameters : List Parameter
repository_parameters =
    needed_name parameter.Name (kind.Text (text.Name name.Generated))
    ∷ named parameter.DevDependency kind.Flag ∷ []

abbrev pub shape : ℕ → Bool → Bool → Shape
shape positional more_positional more_named =
    record {
      positional = positional;
      more_positional = more_positional;
      more_named = more_named;
    }

-- how many arguments a directive takes by position, and whether further ones by position and by
-- name
unfoldable pub shape_of : Directive → Shape
shape_of directive.ArchiveOverride = shape 1 false true
shape_of directive.BazelDep = shape 5 false false
shape_of directive.GitOverride = shape 1 false true
shape_of directive.Include = shape 0 true true
shape_of directive.InjectRepo = shape 1 true true
shape_of directive.LocalPathOverride = shape 2 false false
shape_of directive.Module = shape 5 false false
shape_of directive.MultipleVersionOverride = shape 3 false false
shape_of directive.OverrideRepo = shape 1 true true
shape_of directive.RegisterExecutionPlatforms = shape 0 true false
shape_of directive.RegisterToolchains = shape 0 true false
shape_of directive.SingleVersionOverride = shape 6 false false
shape_of directive.UseExtension = shape 2 false false
shape_of directive.UseRepo = shape 1 true true
shape_of directive.UseRepoRule = shape 2 false false

-- a call whose arguments are attributes takes named ones alone
abbrev pub attribute_shape : Shape
attribute_shape = shape 0 false true
