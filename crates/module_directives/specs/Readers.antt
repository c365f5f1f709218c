-- A reader of a module file: what was declared so far, and what each directive makes of it. Bazel,
-- "MODULE.bazel files". Dev parts and changes of repositories count in the root alone, and there
-- only where dev dependencies aren't ignored; overrides count in the root.
use Rattle.std.specs.Prelude.{ℕ, ◌==◌, Bool, true, false, not, ◌||◌, List, [], ◌∷◌, ◌++◌, length}
use Rattle.std.specs.Prelude.{slice_get, Option, Some, None, Ok, Err, bytes_eq, codes}
use Rattle.std.specs.Prelude.{if◌then◌else◌}
use Rattle.std.specs.List.{list_any}
use Rattle.bz_base.specs.declared.declarations.Declared.{Declared}
use Rattle.bz_base.specs.declared.declarations.Dep.{Dep}
use Rattle.bz_base.specs.declared.declarations.ModuleDecl.{ModuleDecl}
use Rattle.bz_base.specs.declared.declarations.Override.{Override}
use Rattle.bz_base.specs.declared.declarations.OverrideKind.{OverrideKind}
use Rattle.bz_base.specs.declared.declarations.OverrideKind.TheVariants as override
use Rattle.bz_base.specs.declared.declarations.Part.{Part}
use Rattle.bz_base.specs.declared.declarations.Part.TheVariants as part
use Rattle.bz_base.specs.declared.declarations.Usage.{Usage}
use Rattle.bz_base.specs.declared.plain_values.Named.{Named}
use Rattle.bz_base.specs.declared.plain_values.Plain as plain
use Rattle.bz_base.specs.declared.refusals.Code.TheVariants.{DoubleOverride}
use Rattle.module_arguments.specs.GivenValues.{given_text, is_empty}
use Rattle.module_arguments.specs.Objections.{bad_value, objection}
use Rattle.module_arguments.specs.declared.given_values.Given.{Given}
use Rattle.module_arguments.specs.declared.given_values.Given.TheVariants as given
use Rattle.module_arguments.specs.declared.name_pairs.NamePair.{NamePair}
use Rattle.module_arguments.specs.declared.parameters.ParameterName.TheVariants as parameter
use Rattle.module_directives.specs.Outcomes.{Outcome, done}
use Rattle.module_directives.specs.Parts.{names_added, part_added}
use Rattle.module_directives.specs.declared.gifts.Gift.TheVariants as gift
use Rattle.module_directives.specs.declared.parts.Addition.{Addition}
use Rattle.module_directives.specs.declared.parts.Addition.TheVariants as addition
use Rattle.module_directives.specs.declared.parts.Purpose.{Purpose}
use Rattle.module_directives.specs.declared.parts.Purpose.TheVariants as purpose
use Rattle.module_directives.specs.declared.readers.Reader.{Reader}
use Rattle.module_directives.specs.declared.readers.RepoRule.{RepoRule}
use Rattle.module_directives.specs.declared.readers.Role.{Role}
use Rattle.module_directives.specs.declared.readers.Role.TheVariants as role

-- a reader of a file before its first directive
abbrev pub begun_reader : Role → Reader
begun_reader as_role =
    record {
      role = as_role;
      begun = false;
      name = [];
      version = [];
      level = 0;
      repo_name = [];
      deps = [];
      nodeps = [];
      parts = [];
      rules = [];
      overrides = [];
    }

-- what a reader has read
abbrev pub declared_by : Reader → ModuleDecl
declared_by reader =
    record {
      name = reader.name;
      version = reader.version;
      level = reader.level;
      repo_name = reader.repo_name;
      deps = reader.deps;
      nodeps = reader.nodeps;
      parts = reader.parts;
      overrides = reader.overrides;
    }

-- dev parts and changes of repositories count
abbrev pub counts_dev : Role → Bool
counts_dev (role.Root ignore_dev) = not ignore_dev
counts_dev role.Other = false

abbrev pub is_root : Role → Bool
is_root (role.Root ignore_dev) = true
is_root role.Other = false

-- a part counts, which is a dev one or none
abbrev pub counts : Role → Bool → Bool
counts as_role dev = not dev || counts_dev as_role

-- no texts
abbrev pub is_none : List (List ℕ) → Bool
is_none texts = length texts == 0

-- a value that was given at an index
abbrev pub flag_of_given : Option Given → Bool
flag_of_given None = false
flag_of_given (Some (given.Flag flag)) = flag
flag_of_given (Some (given.Text value)) = false
flag_of_given (Some (given.Texts texts)) = false
flag_of_given (Some (given.Level level)) = false
flag_of_given (Some (given.Proxy usage)) = false
flag_of_given (Some given.Nothing) = false

abbrev pub given_flag : ℕ → List Given → Bool
given_flag index values = flag_of_given (slice_get values index)

abbrev pub level_of_given : Option Given → ℕ
level_of_given None = 0
level_of_given (Some (given.Level level)) = level
level_of_given (Some (given.Text value)) = 0
level_of_given (Some (given.Texts texts)) = 0
level_of_given (Some (given.Flag flag)) = 0
level_of_given (Some (given.Proxy usage)) = 0
level_of_given (Some given.Nothing) = 0

abbrev pub given_level : ℕ → List Given → ℕ
given_level index values = level_of_given (slice_get values index)

abbrev pub texts_of_given : Option Given → List (List ℕ)
texts_of_given None = []
texts_of_given (Some (given.Texts texts)) = texts
texts_of_given (Some (given.Text value)) = []
texts_of_given (Some (given.Flag flag)) = []
texts_of_given (Some (given.Level level)) = []
texts_of_given (Some (given.Proxy usage)) = []
texts_of_given (Some given.Nothing) = []

abbrev pub given_texts : ℕ → List Given → List (List ℕ)
given_texts index values = texts_of_given (slice_get values index)

abbrev pub proxy_of_given : Option Given → Option ℕ
proxy_of_given None = None
proxy_of_given (Some (given.Proxy usage)) = usage
proxy_of_given (Some (given.Text value)) = None
proxy_of_given (Some (given.Texts texts)) = None
proxy_of_given (Some (given.Flag flag)) = None
proxy_of_given (Some (given.Level level)) = None
proxy_of_given (Some given.Nothing) = None

abbrev pub given_proxy : ℕ → List Given → Option ℕ
given_proxy index values = proxy_of_given (slice_get values index)

-- None was given
abbrev pub is_nothing : Option Given → Bool
is_nothing (Some given.Nothing) = true
is_nothing None = false
is_nothing (Some (given.Text value)) = false
is_nothing (Some (given.Texts texts)) = false
is_nothing (Some (given.Flag flag)) = false
is_nothing (Some (given.Level level)) = false
is_nothing (Some (given.Proxy usage)) = false

-- a text, or another one where it is empty
abbrev pub or_else : List ℕ → List ℕ → List ℕ
or_else value default = if is_empty value then default else value

-- `module`: the module's own name, version, level and repository name
unfoldable pub module_declared : List Given → Reader → Reader
module_declared values reader =
    record reader {
      begun = true;
      name = given_text 0 values;
      version = given_text 1 values;
      level = given_level 2 values;
      repo_name = or_else (given_text 3 values) (given_text 0 values);
    }

-- some directive ran
abbrev pub begun : Reader → Reader
begun reader = record reader { begun = true }

-- a dependency under an apparent name
abbrev pub dep_called : List Given → List ℕ → ℕ → Dep
dep_called values apparent line =
    record {
      name = given_text 0 values;
      version = given_text 1 values;
      apparent = apparent;
      dev = given_flag 4 values;
      line = line;
    }

-- a nodep dependency, and one under the given name or that of its module
abbrev pub nodep_of : List Given → ℕ → Dep
nodep_of values line = dep_called values [] line

abbrev pub dep_of : List Given → ℕ → Dep
dep_of values line = dep_called values (or_else (given_text 3 values) (given_text 0 values)) line

-- `bazel_dep`: a dependency, or a nodep one where its repository name is None
unfoldable pub dep_declared : List Given → ℕ → Reader → Reader
dep_declared values line reader =
    if counts reader.role (given_flag 4 values)
    then (if is_nothing (slice_get values 3)
    then record reader { begun = true; nodeps = reader.nodeps ++ nodep_of values line ∷ [] }
    else record reader { begun = true; deps = reader.deps ++ dep_of values line ∷ [] })
    else begun reader

-- a usage of an extension of which nothing is said yet
abbrev pub usage_of : List Given → ℕ → Usage
usage_of values line =
    record {
      bzl = given_text 0 values;
      name = given_text 1 values;
      dev = given_flag 2 values;
      tags = [];
      imports = [];
      changes = [];
      line = line;
    }

abbrev pub with_part : Part → Reader → Reader
with_part one reader = record reader { begun = true; parts = reader.parts ++ one ∷ [] }

-- `use_extension`: a usage, which its index stands for, where it counts
unfoldable pub usage_declared : List Given → ℕ → Reader → Outcome
usage_declared values line reader =
    if counts reader.role (given_flag 2 values)
    then Ok (
      gift.Proxy (Some (length reader.parts)),
      with_part (part.Usage (usage_of values line)) reader,
    )
    else Ok (gift.Proxy None, begun reader)

-- `use_repo_rule`: a rule, which its index stands for
unfoldable pub rule_declared : List Given → Reader → Outcome
rule_declared values reader =
    Ok (
      gift.Rule (length reader.rules),
      record reader {
        begun = true;
        rules =
            reader.rules
            ++ record { bzl = given_text 0 values; rule = given_text 1 values } ∷ [];
      },
    )

-- something comes to a usage, where that counts
abbrev pub with_addition : Option ℕ → Addition → Reader → Reader
with_addition None one reader = begun reader
with_addition (Some index) one reader =
    record reader { begun = true; parts = part_added index one reader.parts }

-- a tag of a usage
abbrev pub tag_declared : Option ℕ → List ℕ → List Named → ℕ → Reader → Reader
tag_declared usage class attrs line reader =
    with_addition usage
    (addition.Tag (record { class = class; attrs = attrs; dev = false; line = line })) reader

abbrev pub with_names : Option ℕ → Purpose → ℕ → List NamePair → Reader → Reader
with_names None for line pairs reader = begun reader
with_names (Some index) for line pairs reader =
    record reader { begun = true; parts = names_added index for line pairs reader.parts }

-- `use_repo`: imports of a usage; `override_repo` and `inject_repo`: changes of repositories, where
-- they count
abbrev pub names_declared : Purpose → Option ℕ → ℕ → List NamePair → Reader → Reader
names_declared purpose.Import usage line pairs reader =
    with_names usage purpose.Import line pairs reader
names_declared (purpose.Change inject) usage line pairs reader =
    if counts_dev reader.role then with_names usage (purpose.Change inject) line pairs reader
    else begun reader

-- the rule of a call
abbrev pub bzl_of : Option RepoRule → List ℕ
bzl_of None = []
bzl_of (Some rule) = rule.bzl

abbrev pub name_of : Option RepoRule → List ℕ
name_of None = []
name_of (Some rule) = rule.rule

-- the attribute `name` before others
abbrev pub named_first : List ℕ → List Named → List Named
named_first name attrs = record { name = codes "name"; value = plain.Text name } ∷ attrs

-- a repository that a call of a rule declares: its name stands first among its attributes
abbrev pub declared_of : Option RepoRule → List Given → List Named → ℕ → Declared
declared_of rule values attrs line =
    record {
      bzl = bzl_of rule;
      rule = name_of rule;
      attrs = named_first (given_text 0 values) attrs;
      line = line;
    }

-- a declared repository, where it counts
unfoldable pub repository_declared : Option RepoRule
    → List Given
    → List Named
    → ℕ
    → Reader
    → Reader
repository_declared rule values attrs line reader =
    if counts reader.role (given_flag 1 values)
    then with_part (part.Declared (declared_of rule values attrs line)) reader
    else begun reader

-- a module has an override
abbrev pub is_overridden : List ℕ → List Override → Bool
is_overridden name overrides = list_any (λ one. bytes_eq one.name name) overrides

abbrev pub with_override : List ℕ → OverrideKind → ℕ → Reader → Reader
with_override name kind line reader =
    record reader {
      begun = true;
      overrides = reader.overrides ++ record { name = name; kind = kind; line = line } ∷ [];
    }

-- an override, which counts in the root: of another module than the root, which has none yet
unfoldable pub override_declared : List ℕ → OverrideKind → ℕ → Reader → Outcome
override_declared name kind line reader =
    if not (is_root reader.role) then done (begun reader)
    else (if bytes_eq name reader.name then Err (bad_value parameter.ModuleName)
    else (if is_overridden name reader.overrides then Err (objection DoubleOverride name)
    else done (with_override name kind line reader)))

-- what overrides are by what was given
abbrev pub single_kind : List Given → OverrideKind
single_kind values =
    override.Single (given_text 1 values) (given_text 2 values)
    (not (is_none (given_texts 3 values)) || not (is_none (given_texts 4 values)))

abbrev pub multiple_kind : List Given → OverrideKind
multiple_kind values = override.Multiple (given_texts 1 values) (given_text 2 values)

abbrev pub local_kind : List Given → OverrideKind
local_kind values = override.Local (given_text 1 values)
