-- What the parameters of a directive are given: Bazel, "MODULE.bazel files". Each parameter in
-- order is checked whole, by its type and then by its value, before the next one.
use Rattle.std.specs.Prelude.{ℕ, ◌+◌, ◌==◌, ℤ, pos, negsuc, Bool, true, false, not, ◌||◌}
use Rattle.std.specs.Prelude.{nat_lt}
use Rattle.std.specs.Prelude.{List, [], ◌∷◌, ◌++◌, length, Option, Some, None, Result, Ok, Err}
use Rattle.std.specs.Prelude.{bytes_eq, slice_get, if◌then◌else◌}
use Rattle.std.specs.List.{list_any}
use Rattle.bz_base.specs.Names.{is_module_name, is_repository_name}
use Rattle.bz_base.specs.Paths.{joined}
use Rattle.bz_base.specs.declared.refusals.Code.TheVariants as code
use Rattle.bz_base.specs.declared.tree_path.BadPath.{BadPath}
use Rattle.bz_version.specs.Scan.{version_of}
use Rattle.bz_version.specs.declared.versions.BadVersion.{BadVersion}
use Rattle.module_names.specs.ExportedNames.{is_exported_name}
use Rattle.module_values.specs.TextLists.{text_at, texts_of}
use Rattle.registry_index.specs.Registries.{is_registry}
use Rattle.star_core.specs.Heaps.{HeapState, cell_at}
use Rattle.star_core.specs.declared.values.Args.{Args}
use Rattle.star_core.specs.declared.values.Val.{Val}
use Rattle.star_core.specs.declared.values.Val.TheVariants as val
use Rattle.module_arguments.specs.Arguments.{argument_of}
use Rattle.module_arguments.specs.Objections.{bad_value, left_out, objection}
use Rattle.module_arguments.specs.Objects.{object_in}
use Rattle.module_arguments.specs.declared.given_values.Given.{Given}
use Rattle.module_arguments.specs.declared.given_values.Given.TheVariants as given
use Rattle.module_arguments.specs.declared.objections.Objection.{Objection}
use Rattle.module_arguments.specs.declared.objects.Object.{Object}
use Rattle.module_arguments.specs.declared.objects.Object.TheVariants as object
use Rattle.module_arguments.specs.declared.parameters.Kind.{Kind}
use Rattle.module_arguments.specs.declared.parameters.Kind.TheVariants as kind
use Rattle.module_arguments.specs.declared.parameters.NameKind.{NameKind}
use Rattle.module_arguments.specs.declared.parameters.NameKind.TheVariants as names
use Rattle.module_arguments.specs.declared.parameters.Parameter.{Parameter}
use Rattle.module_arguments.specs.declared.parameters.ParameterName.{ParameterName}
use Rattle.module_arguments.specs.declared.parameters.TextKind.{TextKind}
use Rattle.module_arguments.specs.declared.parameters.TextKind.TheVariants as text

abbrev pub ReadGiven : Type 0
ReadGiven = Result Given Objection

abbrev pub is_empty : List ℕ → Bool
is_empty value = length value == 0

-- a name of this kind
unfoldable pub is_name : NameKind → List ℕ → Bool
is_name names.Own value = is_empty value || is_module_name value
is_name names.Module value = is_module_name value
is_name names.Repository value = is_empty value || is_repository_name value
is_name names.Generated value = is_repository_name value
is_name names.Exported value = is_exported_name value

abbrev pub name_given : NameKind → List ℕ → ReadGiven
name_given names value =
    if is_name names value then Ok (given.Text value) else Err (objection code.BadName value)

-- a version as it is kept, without BUILD
abbrev pub version_read : Result (List ℕ) BadVersion → List ℕ → Result (List ℕ) Objection
version_read (Ok kept) value = Ok kept
version_read (Err fault) value = Err (objection code.BadVersion value)

abbrev pub version_kept : List ℕ → Result (List ℕ) Objection
version_kept value = version_read (version_of value) value

abbrev pub text_given : Result (List ℕ) Objection → ReadGiven
text_given (Ok value) = Ok (given.Text value)
text_given (Err objection) = Err objection

abbrev pub registry_given : ParameterName → List ℕ → ReadGiven
registry_given called value =
    if is_empty value || is_registry value then Ok (given.Text value) else Err (left_out called)

-- a path is kept as it is written
abbrev pub path_given : ParameterName → Result (List ℕ) BadPath → List ℕ → ReadGiven
path_given called (Ok path) value = Ok (given.Text value)
path_given called (Err bad) value = Err (bad_value called)

-- a text of this kind
unfoldable pub text_read : ParameterName → TextKind → List ℕ → ReadGiven
text_read called text.Any value = Ok (given.Text value)
text_read called (text.Name names) value = name_given names value
text_read called text.Version value = text_given (version_kept value)
text_read called text.Registry value = registry_given called value
text_read called text.Path value = path_given called (joined [] value) value

-- a string
abbrev pub string_given : ParameterName → TextKind → Option (List ℕ) → ReadGiven
string_given called kind None = Err (bad_value called)
string_given called kind (Some value) = text_read called kind value

-- a string, or None
abbrev pub string_or_none : ParameterName → TextKind → HeapState → Val → ReadGiven
string_or_none called kind heap val.None = Ok given.Nothing
string_or_none called kind heap (val.Bool flag) = string_given called kind (text_at heap (val.Bool flag))
string_or_none called kind heap (val.Int number) =
    string_given called kind (text_at heap (val.Int number))
string_or_none called kind heap (val.Cell number) =
    string_given called kind (text_at heap (val.Cell number))

-- a list of strings
abbrev pub texts_given : ParameterName → Option (List (List ℕ)) → ReadGiven
texts_given called None = Err (bad_value called)
texts_given called (Some texts) = Ok (given.Texts texts)

-- some versions and one more
abbrev pub and_version : List (List ℕ) → Result (List ℕ) Objection → Result (List (List ℕ)) Objection
and_version versions (Ok version) = Ok (versions ++ version ∷ [])
and_version versions (Err objection) = Err objection

-- the versions so far, and what each further text is
abbrev pub versions_after : Result (List (List ℕ)) Objection
    → List (List ℕ)
    → Result (List (List ℕ)) Objection
versions_after (Err objection) texts = Err objection
versions_after (Ok versions) [] = Ok versions
versions_after (Ok versions) (one ∷ texts) =
    versions_after (and_version versions (version_kept one)) texts

-- two versions differ
abbrev pub some_differ : List (List ℕ) → Bool
some_differ [] = false
some_differ (version ∷ versions) = list_any (λ other. not (bytes_eq other version)) versions

-- the text that was given before at an index
abbrev pub text_of_given : Option Given → List ℕ
text_of_given None = []
text_of_given (Some (given.Text value)) = value
text_of_given (Some (given.Texts texts)) = []
text_of_given (Some (given.Flag flag)) = []
text_of_given (Some (given.Level level)) = []
text_of_given (Some (given.Proxy usage)) = []
text_of_given (Some given.Nothing) = []

abbrev pub given_text : ℕ → List Given → List ℕ
given_text index values = text_of_given (slice_get values index)

-- at least two different versions of the module that is named first
abbrev pub enough : List Given → Result (List (List ℕ)) Objection → ReadGiven
enough before (Err objection) = Err objection
enough before (Ok versions) =
    if some_differ versions then Ok (given.Texts versions)
    else Err (objection code.FewVersions (given_text 0 before))

abbrev pub versions_given : ParameterName → List Given → Option (List (List ℕ)) → ReadGiven
versions_given called before None = Err (bad_value called)
versions_given called before (Some texts) = enough before (versions_after (Ok []) texts)

abbrev pub flag_given : ParameterName → Val → ReadGiven
flag_given called (val.Bool flag) = Ok (given.Flag flag)
flag_given called val.None = Err (bad_value called)
flag_given called (val.Int number) = Err (bad_value called)
flag_given called (val.Cell number) = Err (bad_value called)

-- a flag that may only be False
abbrev pub unset_given : ParameterName → Val → ReadGiven
unset_given called (val.Bool true) = Err (left_out called)
unset_given called (val.Bool false) = Ok given.Nothing
unset_given called val.None = Err (bad_value called)
unset_given called (val.Int number) = Err (bad_value called)
unset_given called (val.Cell number) = Err (bad_value called)

-- a level from 0 to 2147483647
abbrev pub level_of : ℤ → Option ℕ
level_of (pos n) = if nat_lt 2147483647 n then None else Some n
level_of (negsuc n) = None

abbrev pub level_read : ParameterName → Option ℕ → ReadGiven
level_read called (Some level) = Ok (given.Level level)
level_read called None = Err (bad_value called)

abbrev pub level_given : ParameterName → Val → ReadGiven
level_given called (val.Int number) = level_read called (level_of number)
level_given called val.None = Err (bad_value called)
level_given called (val.Bool flag) = Err (bad_value called)
level_given called (val.Cell number) = Err (bad_value called)

-- the integer -1, which sets no greatest level
abbrev pub is_unset : ℤ → Bool
is_unset (pos n) = false
is_unset (negsuc n) = n == 0

abbrev pub maximum_given : ParameterName → Val → ReadGiven
maximum_given called (val.Int number) =
    if is_unset number then Ok given.Nothing else Err (left_out called)
maximum_given called val.None = Err (bad_value called)
maximum_given called (val.Bool flag) = Err (bad_value called)
maximum_given called (val.Cell number) = Err (bad_value called)

abbrev pub integer_given : ParameterName → Val → ReadGiven
integer_given called (val.Int number) = Ok given.Nothing
integer_given called val.None = Err (bad_value called)
integer_given called (val.Bool flag) = Err (bad_value called)
integer_given called (val.Cell number) = Err (bad_value called)

-- what `use_extension` gave
abbrev pub proxy_given : ParameterName → Option Object → ReadGiven
proxy_given called (Some (object.Proxy usage)) = Ok (given.Proxy usage)
proxy_given called (Some (object.Named directive)) = Err (bad_value called)
proxy_given called (Some (object.Rule number)) = Err (bad_value called)
proxy_given called None = Err (bad_value called)

-- what a parameter of a kind is given by a value, where others were given before
unfoldable pub value_given : Kind → ParameterName → List Given → HeapState → Val → ReadGiven
value_given (kind.Text texts) called before heap value = string_given called texts (text_at heap value)
value_given (kind.TextOrNone texts) called before heap value = string_or_none called texts heap value
value_given kind.Texts called before heap value = texts_given called (texts_of heap value)
value_given kind.Versions called before heap value =
    versions_given called before (texts_of heap value)
value_given kind.Flag called before heap value = flag_given called value
value_given kind.Unset called before heap value = unset_given called value
value_given kind.Level called before heap value = level_given called value
value_given kind.NoMaximum called before heap value = maximum_given called value
value_given kind.Integer called before heap value = integer_given called value
value_given kind.Proxy called before heap value = proxy_given called (object_in (cell_at heap value))

-- what a parameter of a kind is given that is left out
unfoldable pub default_of : Kind → Given
default_of (kind.Text texts) = given.Text []
default_of (kind.TextOrNone texts) = given.Text []
default_of kind.Texts = given.Texts []
default_of kind.Versions = given.Texts []
default_of kind.Flag = given.Flag false
default_of kind.Unset = given.Nothing
default_of kind.Level = given.Level 0
default_of kind.NoMaximum = given.Nothing
default_of kind.Integer = given.Nothing
default_of kind.Proxy = given.Nothing

-- what a parameter is given by its argument
abbrev pub given_by : Parameter → List Given → HeapState → Option Val → ReadGiven
given_by parameter before heap None = Ok (default_of parameter.kind)
given_by parameter before heap (Some value) =
    value_given parameter.kind parameter.name before heap value

-- what was given and one more
abbrev pub and_given : List Given → ReadGiven → Result (List Given) Objection
and_given before (Ok one) = Ok (before ++ one ∷ [])
and_given before (Err objection) = Err objection

-- what was given so far, and what each further parameter is given
abbrev pub given_after : ℕ
    → HeapState
    → Args
    → Result (List Given) Objection
    → List Parameter
    → Result (List Given) Objection
given_after index heap args (Err objection) parameters = Err objection
given_after index heap args (Ok before) [] = Ok before
given_after index heap args (Ok before) (parameter ∷ more) =
    given_after (index + 1) heap args
    (and_given before (given_by parameter before heap (argument_of index parameter args))) more

-- what each parameter is given
abbrev pub each_given : List Parameter → HeapState → Args → Result (List Given) Objection
each_given parameters heap args = given_after 0 heap args (Ok []) parameters
