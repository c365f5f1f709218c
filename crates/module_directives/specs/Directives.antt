-- The directives: a table of what each of them does, a row a directive. Bazel, "MODULE.bazel
-- files".
use Rattle.std.specs.Prelude.{ℕ, Bool, true, false, List, [], Option, Some, None, Ok, Err, codes}
use Rattle.std.specs.Prelude.{slice_get, Result, ◌||◌, if◌then◌else◌}
use Rattle.bz_base.specs.declared.declarations.OverrideKind.{OverrideKind}
use Rattle.bz_base.specs.declared.declarations.OverrideKind.TheVariants as override
use Rattle.bz_base.specs.declared.refusals.Code.TheVariants.{BadValue}
use Rattle.module_arguments.specs.Arguments.{binds, further}
use Rattle.module_arguments.specs.Attributes.{attributes_in}
use Rattle.module_arguments.specs.Directives.{attribute_shape, parameters_of}
use Rattle.module_arguments.specs.Directives.{repository_parameters, shape_of}
use Rattle.module_arguments.specs.GivenValues.{each_given, given_text}
use Rattle.module_arguments.specs.NamePairs.{pairs_in}
use Rattle.module_arguments.specs.Objections.{arity, objection}
use Rattle.module_arguments.specs.declared.directives.Directive.{Directive}
use Rattle.module_arguments.specs.declared.directives.Directive.TheVariants as directive
use Rattle.module_arguments.specs.declared.given_values.Given.{Given}
use Rattle.module_arguments.specs.declared.objections.Objection.{Objection}
use Rattle.module_directives.specs.Outcomes.{Outcome, and_then, done, include_left, module_late}
use Rattle.module_directives.specs.Readers.{begun, dep_declared, given_proxy}
use Rattle.module_directives.specs.Readers.{local_kind, module_declared}
use Rattle.module_directives.specs.Readers.{multiple_kind, names_declared, override_declared}
use Rattle.module_directives.specs.Readers.{repository_declared, rule_declared, single_kind}
use Rattle.module_directives.specs.Readers.{tag_declared, usage_declared}
use Rattle.module_directives.specs.declared.parts.Purpose.{Purpose}
use Rattle.module_directives.specs.declared.parts.Purpose.TheVariants as purpose
use Rattle.module_directives.specs.declared.readers.Reader.{Reader}
use Rattle.module_directives.specs.declared.readers.RepoRule.{RepoRule}
use Rattle.module_values.specs.TextLists.{each_text}
use Rattle.star_core.specs.Heaps.{HeapState}
use Rattle.star_core.specs.declared.values.Args.{Args}

-- what the parameters of a directive are given
abbrev pub values_of : Directive → HeapState → Args → Result (List Given) Objection
values_of one heap args = each_given (parameters_of one) heap args

-- `module` is the first directive
abbrev pub module_row : HeapState → Args → Reader → Outcome
module_row heap args reader =
    if reader.begun then Err module_late
    else and_then (values_of directive.Module heap args)
    (λ values. done (module_declared values reader))

abbrev pub dep_row : HeapState → Args → ℕ → Reader → Outcome
dep_row heap args line reader =
    and_then (values_of directive.BazelDep heap args)
    (λ values. done (dep_declared values line reader))

abbrev pub extension_row : HeapState → Args → ℕ → Reader → Outcome
extension_row heap args line reader =
    and_then (values_of directive.UseExtension heap args)
    (λ values. usage_declared values line reader)

abbrev pub rule_row : HeapState → Args → Reader → Outcome
rule_row heap args reader =
    and_then (values_of directive.UseRepoRule heap args) (λ values. rule_declared values reader)

-- an override whose parameters are all that it takes
abbrev pub override_row : Directive
    → (List Given → OverrideKind)
    → HeapState
    → Args
    → ℕ
    → Reader
    → Outcome
override_row one kind heap args line reader =
    and_then (values_of one heap args)
    (λ values. override_declared (given_text 0 values) (kind values) line reader)

-- an override whose further arguments are plain, and ignored
abbrev pub source_row : Directive → OverrideKind → HeapState → Args → ℕ → Reader → Outcome
source_row one kind heap args line reader =
    and_then (values_of one heap args)
    (λ values. and_then (attributes_in heap (parameters_of one) args.named)
    (λ ignored. override_declared (given_text 0 values) kind line reader))

-- labels are strings, which nothing keeps; they are checked before what is given by name
abbrev pub labels_given : Option (List (List ℕ)) → Result (List (List ℕ)) Objection
labels_given None = Err (objection BadValue (codes "labels"))
labels_given (Some texts) = Ok texts

abbrev pub registered_row : Directive → HeapState → Args → Reader → Outcome
registered_row one heap args reader =
    and_then (labels_given (each_text heap args.positional))
    (λ labels. and_then (values_of one heap args) (λ values. done (begun reader)))

-- names of repositories of a usage
abbrev pub names_row : Directive → Purpose → HeapState → Args → ℕ → Reader → Outcome
names_row one for heap args line reader =
    and_then (values_of one heap args)
    (λ values. and_then (pairs_in heap (further (shape_of one) args) args.named)
    (λ pairs. done (names_declared for (given_proxy 0 values) line pairs reader)))

-- what a directive does whose arguments bind
unfoldable pub bound_row : Directive → HeapState → Args → ℕ → Reader → Outcome
bound_row directive.Module heap args line reader = module_row heap args reader
bound_row directive.BazelDep heap args line reader = dep_row heap args line reader
bound_row directive.UseExtension heap args line reader = extension_row heap args line reader
bound_row directive.UseRepoRule heap args line reader = rule_row heap args reader
bound_row directive.UseRepo heap args line reader =
    names_row directive.UseRepo purpose.Import heap args line reader
bound_row directive.OverrideRepo heap args line reader =
    names_row directive.OverrideRepo (purpose.Change false) heap args line reader
bound_row directive.InjectRepo heap args line reader =
    names_row directive.InjectRepo (purpose.Change true) heap args line reader
bound_row directive.SingleVersionOverride heap args line reader =
    override_row directive.SingleVersionOverride single_kind heap args line reader
bound_row directive.MultipleVersionOverride heap args line reader =
    override_row directive.MultipleVersionOverride multiple_kind heap args line reader
bound_row directive.LocalPathOverride heap args line reader =
    override_row directive.LocalPathOverride local_kind heap args line reader
bound_row directive.ArchiveOverride heap args line reader =
    source_row directive.ArchiveOverride override.Archive heap args line reader
bound_row directive.GitOverride heap args line reader =
    source_row directive.GitOverride override.Git heap args line reader
bound_row directive.RegisterToolchains heap args line reader =
    registered_row directive.RegisterToolchains heap args reader
bound_row directive.RegisterExecutionPlatforms heap args line reader =
    registered_row directive.RegisterExecutionPlatforms heap args reader
bound_row directive.Include heap args line reader = Err include_left

-- `include` is left out whatever its arguments
unfoldable pub takes_anything : Directive → Bool
takes_anything directive.Include = true
takes_anything directive.Module = false
takes_anything directive.BazelDep = false
takes_anything directive.UseExtension = false
takes_anything directive.UseRepoRule = false
takes_anything directive.UseRepo = false
takes_anything directive.OverrideRepo = false
takes_anything directive.InjectRepo = false
takes_anything directive.SingleVersionOverride = false
takes_anything directive.MultipleVersionOverride = false
takes_anything directive.LocalPathOverride = false
takes_anything directive.ArchiveOverride = false
takes_anything directive.GitOverride = false
takes_anything directive.RegisterToolchains = false
takes_anything directive.RegisterExecutionPlatforms = false

-- the arguments of a directive bind
abbrev pub may_run : Directive → Args → Bool
may_run one args = takes_anything one || binds (shape_of one) (parameters_of one) args

-- what a directive does
unfoldable pub directive_row : Directive → HeapState → Args → ℕ → Reader → Outcome
directive_row one heap args line reader =
    if may_run one args then bound_row one heap args line reader else Err arity

-- what a tag of a usage does
unfoldable pub tag_row : Option ℕ → List ℕ → HeapState → Args → ℕ → Reader → Outcome
tag_row usage class heap args line reader =
    if binds attribute_shape [] args
    then and_then (attributes_in heap [] args.named)
    (λ attrs. done (tag_declared usage class attrs line reader))
    else Err arity

-- what a call of a rule does whose arguments bind
abbrev pub bound_repository : Option RepoRule → HeapState → Args → ℕ → Reader → Outcome
bound_repository rule heap args line reader =
    and_then (each_given repository_parameters heap args)
    (λ values. and_then (attributes_in heap repository_parameters args.named)
    (λ attrs. done (repository_declared rule values attrs line reader)))

-- the rule with an index
abbrev pub rule_at : Option ℕ → List RepoRule → Option RepoRule
rule_at None rules = None
rule_at (Some index) rules = slice_get rules index

-- what a call of a repository rule does
unfoldable pub repository_row : Option ℕ → HeapState → Args → ℕ → Reader → Outcome
repository_row index heap args line reader =
    if binds attribute_shape repository_parameters args
    then bound_repository (rule_at index reader.rules) heap args line reader
    else Err arity
